-- What plays from some classes say of the parts that a content needs.
use Rattle.std.proofs.Common.{◌≡◌, ℕ, true, false, List, Option, Some, None, refl}
use Rattle.std.specs.Prelude.{◌↔◌, is_some}
use Rattle.std.proofs.Math.Bool.{and-true, and-false}
use Rattle.ans_model.specs.Screen.State.{Size}
use Rattle.ans_model.specs.Screen.StartClass.{Covers, all_known, both_known}
use Rattle.ans_model.specs.Verdict.Good.{IsGood}
use Rattle.ans_model.specs.declared.fault.Fault.{Fault}
use Rattle.ans_model.specs.declared.start.Start.{Start}
use Rattle.ans_model.proofs.ClassLemmas.{covers_all_known, covers_good, covers_all_but_screen}
use Rattle.ans_model.proofs.ClassLemmas.{covers_all_but_cursor}
use Rattle.ans_model.proofs.ClassLemmas.{covers_all_but_saved, covers_all_but_colours, covers_all_but_wrap}
use Rattle.ans_play.proofs.GoodFromBoth.{good_from_both}
use Rattle.ans_verdict.specs.declared.part.Part.{Part}
use Rattle.ans_verdict.specs.declared.part.Part.TheVariants.{Screen, Cursor, Saved, Colours, Wrap}
use Rattle.ans_verdict.specs.StartParts.{EndsFrom, all_but, knows, with_part}
use Rattle.ans_verdict.proofs.VerdictLemmas.{not_good}

-- ---- classes
covers_all_but : (class : Start) (part : Part) → knows class part ≡ false → Covers class (all_but part)
covers_all_but class Screen e = (covers_all_but_screen class).1 e
covers_all_but class Cursor e = (covers_all_but_cursor class).1 e
covers_all_but class Saved e = (covers_all_but_saved class).1 e
covers_all_but class Colours e = (covers_all_but_colours class).1 e
covers_all_but class Wrap e = (covers_all_but_wrap class).1 e

unknown_without : (class : Start) (part : Part) → knows (with_part part false class) part ≡ false
unknown_without class Screen = refl
unknown_without class Cursor = refl
unknown_without class Saved = refl
unknown_without class Colours = refl
unknown_without class Wrap = refl

-- what a class and that of all other parts both know is the class without the part
both_without : (c : Start) (part : Part) → both_known c (all_but part) ≡ with_part part false c
both_without c Screen = simp (and-true, and-false)
both_without c Cursor = simp (and-true, and-false)
both_without c Saved = simp (and-true, and-false)
both_without c Colours = simp (and-true, and-false)
both_without c Wrap = simp (and-true, and-false)

-- ---- a content
module _ (z : Size) (content : List ℕ) where
  covered : (a b : Start) → Covers a b → IsGood z a content → IsGood z b content
  covered a b covers good = (good.0, covers_good z a b content good.0 covers good.1)

  -- where it is good for a class, it can do without a part that is not known there
  pub unknown_unneeded : (c : Start) (part : Part) → knows c part ≡ false → IsGood z c content
      → (false ≡ false) ↔ IsGood z (all_but part) content
  unknown_unneeded c part e good = (λ _. covered c (all_but part) (covers_all_but c part e) good, λ _. refl)

  -- where it is good for a class and not for that without the part, it needs the part
  needed_there : (c : Start) (part : Part) → IsGood z c content → ¬ IsGood z (with_part part false c) content
      → (true ≡ false) ↔ IsGood z (all_but part) content
  needed_there c part good not = (
    λ e. absurd (cc),
    λ g. absurd (not (rw both_without at (good_from_both z c (all_but part) content good g))),
  )

  -- so where the class without the part covers one for which it is not good
  pub surely_needed : (c refused : Start) (part : Part) → IsGood z c content → ¬ IsGood z refused content
      → Covers (with_part part false c) refused → (true ≡ false) ↔ IsGood z (all_but part) content
  surely_needed c refused part good not covers =
      needed_there c part good (λ g. not (covered _ refused covers g))

  -- where it is good for a class, the play from that without the part tells whether it needs the part
  pub needed_by_play : (c : Start) (part : Part) (fault : Option Fault) → IsGood z c content
      → EndsFrom z content (with_part part false c) fault
      → (is_some fault ≡ false) ↔ IsGood z (all_but part) content
  needed_by_play c part None good ends = (
    λ _. covered _ _ (covers_all_but (with_part part false c) part (unknown_without c part)) ends,
    λ _. refl,
  )
  needed_by_play c part (Some f) good ends =
      needed_there c part good (λ g. not_good z (with_part part false c) content f ends g)

  -- what is good for a class is good for the cleared start
  pub good_when_cleared : (c : Start) → IsGood z c content → IsGood z all_known content
  good_when_cleared c good = covered c all_known (covers_all_known c) good
