-- What is named is named for all, also behind the mending.
use Rattle.std.proofs.Common.{◌≡◌, ℕ, Bool, true, false, refl, sym, ap, ◌∙◌, subst, List, ◌++◌, map}
use Rattle.ans_model.specs.Screen.State.{Size, State}
use Rattle.ans_model.specs.Sequence.TokenKind.{TokenKind}
use Rattle.ans_model.specs.Sequence.Reads.{Reads}
use Rattle.ans_players.specs.Mends.{mending_spelled}
use Rattle.ans_players.specs.Situations.{Spelled, spelled}
use Rattle.ans_players.proofs.OneSpelling.{one_spelling}
use Rattle.ans_model.specs.Screen.Beginning.{mending, mending_texts, mending_tokens}
use Rattle.ans_kinds.proofs.Mended.{reads_as_behind}
use Rattle.ans_mend.specs.NamedColours.{begins_unnamed, named_content}
use Rattle.ans_names_laws.specs.NamedTokens.{named_tokens}
use Rattle.ans_names_laws.specs.NameLaws.{NamedIsRead, NeverOwn, NoneOwnIsLeft, TwiceIsOnce, TwiceIsOnceMended}
use Rattle.ans_mend.specs.Mending.{front_bytes}

-- the laws of naming that say that naming twice is naming once
pub record NamingLaws : Type 0 where
  pub read : NamedIsRead
  pub once : TwiceIsOnce
  pub mended : TwiceIsOnceMended

-- behind the mending a content is read as it is by itself
behind_mending : (content : List ℕ) (tokens again : List TokenKind) (reads : Reads content tokens)
    (reads_again : Reads (mending ++ content) again)
    → spelled again reads_again.0 ≡ mending_spelled ++ spelled tokens reads.0
behind_mending content tokens again reads reads_again =
    one_spelling (mending ++ content) again (mending_tokens ++ tokens) reads_again
    (mending_texts ++ reads.0, reads_as_behind content tokens reads.0 reads.1)

-- there what is printed first is printed in named colours
pub begins_named : (content : List ℕ) (tokens again : List TokenKind) (reads : Reads content tokens)
    (reads_again : Reads (mending ++ content) again)
    → begins_unnamed (spelled again reads_again.0) ≡ false
begins_named content tokens again reads reads_again =
    ap begins_unnamed (behind_mending content tokens again reads reads_again)

module _ (laws : NamingLaws) (content : List ℕ) (tokens : List TokenKind) (reads : Reads content tokens) where
  abbrev named : List ℕ
  named = named_content (spelled tokens reads.0)

  abbrev its_tokens : List TokenKind
  its_tokens = map (λ x. x.token) (named_tokens (spelled tokens reads.0))

  is_read : Reads named its_tokens
  is_read = (map (λ x. x.text) (named_tokens (spelled tokens reads.0)), laws.read content tokens reads)

  pub named_again : (front : Bool) (again : List TokenKind) (reads_again : Reads (front_bytes front ++ named) again)
      → named_content (spelled again reads_again.0) ≡ front_bytes front ++ named
  named_again false again reads_again = laws.once content tokens again reads reads_again
  named_again true again reads_again =
      ap named_content (behind_mending named its_tokens again is_read reads_again)
      ∙ (laws.mended content tokens its_tokens reads is_read).0

  pub own_gone : NoneOwnIsLeft → (z : Size) (s : State) (front : Bool) (again : List TokenKind)
      (reads_again : Reads (front_bytes front ++ named) again)
      → (front ≡ false → begins_unnamed (spelled again reads_again.0) ≡ false)
      → NeverOwn z s (spelled again reads_again.0)
  own_gone none_own z s false again reads_again begins =
      (none_own z s content tokens again reads reads_again).0
      (sym (laws.mended content tokens again reads reads_again).2 ∙ begins refl)
  own_gone none_own z s true again reads_again begins =
      subst (λ (v : List Spelled). NeverOwn z s v)
      (sym (behind_mending named its_tokens again is_read reads_again))
      (none_own z s content tokens its_tokens reads is_read).1
