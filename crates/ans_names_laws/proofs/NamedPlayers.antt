-- What is shown after the mending, with the colours named.
use Rattle.std.proofs.Common.{◌≡◌, ℕ, Bool, List, ◌++◌, refl, sym, ◌∙◌, subst}
use Rattle.ans_model.specs.Sequence.TokenKind.{TokenKind}
use Rattle.ans_model.specs.Sequence.Reads.{Reads}
use Rattle.ans_model.specs.Screen.State.{Size}
use Rattle.ans_model.specs.Screen.StartClass.{none_known}
use Rattle.ans_model.specs.Verdict.Good.{GoodWith}
use Rattle.ans_players.specs.declared.difference.Difference.{Difference}
use Rattle.ans_players.specs.Mends.{mending_spelled}
use Rattle.ans_players.specs.Players.{Behaviour, IsPlayer, IsShown}
use Rattle.ans_players.specs.Situations.{AreAgreed, Spelled, spelled}
use Rattle.ans_players_laws.proofs.Everywhere.{good_is_shown}
use Rattle.ans_players.proofs.OneSpelling.{one_spelling}
use Rattle.ans_model.specs.Screen.Beginning.{mending, mending_texts, mending_tokens}
use Rattle.ans_kinds.proofs.KindsFound.{spelled_behind}
use Rattle.ans_kinds.proofs.Mended.{makes_good, reads_as_behind}
use Rattle.ans_mend.specs.NamedColours.{named_content}
use Rattle.ans_names_laws.specs.NameLaws.{NamedIsShown}
use Rattle.ans_names_laws.proofs.NamedPicture.{cells_stay}
use Rattle.ans_names_laws.proofs.OwnGone.{own_need_not_be_agreed}

-- after the mending content is read as its tokens after those of the mending
spelled_mended : (content : List ℕ) (tokens whole : List TokenKind) (reads : Reads content tokens)
    (reads_whole : Reads (mending ++ content) whole)
    → spelled whole reads_whole.0 ≡ mending_spelled ++ spelled tokens reads.0
spelled_mended content tokens whole reads reads_whole =
    one_spelling (mending ++ content) whole (mending_tokens ++ tokens) reads_whole
    (mending_texts ++ reads.0, reads_as_behind content tokens reads.0 reads.1)
    ∙ spelled_behind mending_tokens tokens mending_texts reads.0 refl

pub named_is_shown : (z : Size) (agreed : Difference → Bool) (p : Behaviour) → IsPlayer z agreed p
    → NamedIsShown p z agreed
named_is_shown z agreed p player content picture good named again each =
    let bytes : List ℕ = named_content (spelled good.tokens good.reads.0) in
    let mended : GoodWith z none_known (mending ++ bytes) picture =
    makes_good z bytes picture (cells_stay z _ content picture good) in
    let same : spelled mended.tokens mended.reads.0 ≡ mending_spelled ++ spelled named again.0 =
    spelled_mended bytes named mended.tokens again mended.reads in
    let agreed_there : AreAgreed agreed z none_known (mending_spelled ++ spelled named again.0) =
    (own_need_not_be_agreed agreed z none_known content good.tokens named good.reads again).1 good.size.some_columns
    each in
    subst (λ (v : List Spelled). IsShown p z none_known v picture) same
    (good_is_shown z agreed p player none_known (mending ++ bytes) picture mended
    (subst (λ (v : List Spelled). AreAgreed agreed z none_known v) (sym same) agreed_there))
