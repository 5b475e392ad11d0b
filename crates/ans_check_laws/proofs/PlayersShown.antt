-- From what is said of players to what they show.
use Rattle.std.proofs.Common.{◌≡◌, inl, inr, ℕ, Bool, false, List, [], ◌∷◌, refl, sym, ap, subst, take, ◌∙◌}
use Rattle.std.specs.Prelude.{IsTrue}
use Rattle.std.specs.List.{list_all}
use Rattle.std.proofs.lemmas.Bool.{and_from, and_parts, cases_Bool, eqb-true, false≢true}
use Rattle.ans_model.specs.File.Layout.{content}
use Rattle.ans_model.specs.File.Record.{stated_size}
use Rattle.ans_model.specs.Screen.State.{Size}
use Rattle.ans_model.specs.Screen.StartClass.{Covers, all_known, none_known}
use Rattle.ans_model.specs.Verdict.Good.{GoodWith, Picture}
use Rattle.ans_model.specs.declared.start.Start.{Start}
use Rattle.ans_model.proofs.ClassLemmas.{covers_all_known, covers_both_ways, none_known_covers}
use Rattle.ans_players.specs.Classes.{IsLeastSame, IsSame}
use Rattle.ans_players.specs.Players.{Behaviour, IsPlayer, IsShown}
use Rattle.ans_players.specs.Situations.{AreAgreed, Spelled, is_agreed, spelled, stand_of}
use Rattle.ans_players.specs.declared.difference.Difference.{Difference}
use Rattle.ans_players.specs.declared.difference.Difference.TheVariants.{OwnColours}
use Rattle.ans_players.specs.Kinds.{is_kind}
use Rattle.ans_players.proofs.NamedKinds.{same_kind}
use Rattle.ans_players_laws.proofs.Everywhere.{good_is_shown}
use Rattle.ans_players.proofs.OneSpelling.{one_spelling}
use Rattle.ans_kinds.specs.SaidOfPlayers.{IsSameWhereCleared}
use Rattle.ans_mend.specs.declared.outcome.Mended.{Mended}
use Rattle.ans_model.specs.declared.mends.Mends.{Mends}
use Rattle.ans_mend.specs.Mending.{IsMended}
use Rattle.ans_check_laws.proofs.MendedTwice.{still}

abbrev pub none_agreed : Difference → Bool
none_agreed kind = false

-- what is agreed is so where more is
still_agreed : (agreed more : Difference → Bool) → ((kind : Difference) → IsTrue (agreed kind) → IsTrue (more kind))
    → (kinds : List Difference) → IsTrue (list_all agreed kinds) → IsTrue (list_all more kinds)
still_agreed agreed more up [] all = refl
still_agreed agreed more up (kind ∷ kinds) all =
    and_from _ _ (up kind (and_parts _ _ all).0) (still_agreed agreed more up kinds (and_parts _ _ all).1)

module _ (z : Size) (bytes : List ℕ) where
  -- what is the same is so in each of its readings
  read_so : (agreed : Difference → Bool) (class : Start) (picture : Picture) → IsSame agreed z class bytes
      → (good : GoodWith z class bytes picture) → AreAgreed agreed z class (spelled good.tokens good.reads.0)
  read_so agreed class picture same good =
      subst (λ (xs : List Spelled). AreAgreed agreed z class xs)
      (one_spelling bytes same.0.1.tokens good.tokens same.0.1.reads good.reads) same.1

  -- a player that does as the profile does in all agreed kinds shows what is the same
  pub same_is_shown : (agreed its : Difference → Bool) (p : Behaviour) → IsPlayer z its p
      → ((kind : Difference) → IsTrue (agreed kind) → IsTrue (its kind)) → (class : Start) (picture : Picture)
      → IsSame agreed z class bytes → (good : GoodWith z class bytes picture)
      → IsShown p z class (spelled good.tokens good.reads.0) picture
  same_is_shown agreed its p player up class picture same good =
      good_is_shown z its p player class bytes picture good (λ s k x start there.
      still_agreed agreed its up _ (read_so agreed class picture same good s k x start there))

  pub any_is_shown : (its : Difference → Bool) (p : Behaviour) → IsPlayer z its p → (class known : Start)
      (picture : Picture) → IsLeastSame none_agreed z bytes class → Covers class known
      → (good : GoodWith z known bytes picture) → IsShown p z known (spelled good.tokens good.reads.0) picture
  any_is_shown its p player class known picture least covers good =
      same_is_shown none_agreed its p player (λ kind no. absurd (false≢true no)) known picture
      ((least known).1 covers) good

  pub named_is_shown : (its : Difference → Bool) (p : Behaviour) → IsPlayer z its p → IsTrue (its OwnColours)
      → (class known : Start) (picture : Picture) → IsLeastSame (is_kind OwnColours) z bytes class
      → Covers class known → (good : GoodWith z known bytes picture)
      → IsShown p z known (spelled good.tokens good.reads.0) picture
  named_is_shown its p player own class known picture least covers good =
      same_is_shown (is_kind OwnColours) its p player
      (λ kind is. ap its (sym (same_kind OwnColours kind (eqb-true _ _ is))) ∙ own) known picture
      ((least known).1 covers) good

-- ---- of a file that is mended
module _ (mends : Mends) (file : List ℕ) (mended : Mended) (draft : List ℕ) (h : IsMended mends file mended draft) where
  abbrev z : Size
  z = stated_size h.apart.record_bytes

  abbrev shown : List ℕ
  shown = content h.apart.body

  abbrev xs : List Spelled
  xs = spelled h.from_every.tokens h.from_every.reads.0

  pub is_same_where_cleared : IsSameWhereCleared z shown
  is_same_where_cleared agreed same = ((h.picture, h.from_every), each)
    where
      each : AreAgreed agreed z none_known xs
      each s k x start there = elim (cases_Bool (is_agreed agreed z (stand_of z s (take k xs)) x)) [
        | inl is ↦ is
        | inr not_so ↦ absurd (still mends file mended draft h (λ all.
            false≢true (sym not_so ∙ read_so z shown agreed none_known h.picture (all agreed same) h.from_every s k x
            start there)))
      ]

  pub needs_nothing : (agreed : Difference → Bool) (class : Start) → IsLeastSame agreed z shown class
      → class ≡ none_known
  needs_nothing agreed class least =
      covers_both_ways class none_known
      ((least none_known).0 (is_same_where_cleared agreed ((least all_known).1 (covers_all_known class))))
      (none_known_covers class)
