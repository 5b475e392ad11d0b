-- A content that is good for the cleared start has one least class, and it is found part by part.
use Rattle.std.proofs.Common.{◌≡◌, ◌⊎◌, inl, inr, ℕ, Bool, true, false, List, refl}
use Rattle.std.specs.Prelude.{◌↔◌, IsTrue}
use Rattle.std.proofs.lemmas.Bool.{and_parts}
use Rattle.ans_model.specs.Screen.State.{Size}
use Rattle.ans_model.specs.Screen.StartClass.{all_known, Covers, all_but_screen, all_but_cursor}
use Rattle.ans_model.specs.Screen.StartClass.{all_but_saved, all_but_colours, all_but_wrap}
use Rattle.ans_model.specs.Verdict.Good.{IsGood}
use Rattle.ans_model.specs.Verdict.Needs.{IsLeast, IsFoundByParts}
use Rattle.ans_model.specs.declared.start.Start.{Start}
use Rattle.ans_model.proofs.ClassLemmas.{covers_both_ways, covers_itself, covers_good, covers_all_but_screen}
use Rattle.ans_model.proofs.ClassLemmas.{covers_all_but_cursor}
use Rattle.ans_model.proofs.ClassLemmas.{covers_all_but_saved, covers_all_but_colours, covers_all_but_wrap}
use Rattle.ans_play.proofs.GoodFromBoth.{good_from_both}
use Rattle.ans_play.proofs.WholeBytes.{good_or_not}

-- ---- classes
-- what is good for a class is good for each class that it covers
covered_is_good : (z : Size) (content : List ℕ) (a b : Start) → Covers a b → IsGood z a content → IsGood z b content
covered_is_good z content a b covers good = (good.0, covers_good z a b content good.0 covers good.1)

-- ---- the least class
-- two least classes are one
pub least_is_one : (z : Size) (content : List ℕ) (a b : Start) → IsLeast z content a → IsLeast z content b → a ≡ b
least_is_one z content a b least_a least_b =
    covers_both_ways a b
    ((least_a b).0 ((least_b b).1 (covers_itself b)))
    ((least_b a).0 ((least_a a).1 (covers_itself a)))

-- a part that no class can do without is known in each class for which the content is good
needed_part : (z : Size) (content : List ℕ) (others : Start) (needed known : Bool) →
    (needed ≡ false) ↔ IsGood z others content → (known ≡ false → IsGood z others content) → IsTrue needed →
    IsTrue known
needed_part z content others needed true part without k = refl
needed_part z content others needed false part without k =
    let no : needed ≡ false = part.1 (without refl) in absurd (cc)

-- with this part as it is found and all others known, the content is good
good_with_part : (z : Size) (content : List ℕ) (needed : Bool) (class : Bool → Start) →
    (needed ≡ false) ↔ IsGood z (class false) content → IsGood z (class true) content → IsGood z (class needed) content
good_with_part z content true class part all = all
good_with_part z content false class part all = part.0 refl

module _ (z : Size) (content : List ℕ) (class : Start) (all : IsGood z all_known content)
    (found : IsFoundByParts z content class) where
  -- the content is good for the class that is found
  found_is_good : IsGood z class content
  found_is_good =
      covered_is_good z content _ class
      (record {
        screen = λ k. (and_parts class.screen true k).0;
        cursor = λ k. (and_parts class.cursor true k).0;
        saved = λ k. (and_parts class.saved true k).0;
        colours = λ k. (and_parts class.colours true k).0;
        wrap = λ k. k;
      })
      (good_from_both z _ _ content
      (good_with_part z content class.screen (λ k. record all_known { screen = k }) found.screen all)
      (good_from_both z _ _ content
      (good_with_part z content class.cursor (λ k. record all_known { cursor = k }) found.cursor all)
      (good_from_both z _ _ content
      (good_with_part z content class.saved (λ k. record all_known { saved = k }) found.saved all)
      (good_from_both z _ _ content
      (good_with_part z content class.colours (λ k. record all_known { colours = k }) found.colours all)
      (good_with_part z content class.wrap (λ k. record all_known { wrap = k }) found.wrap all)))))

  -- the class that is found part by part is least
  pub least_by_parts : IsLeast z content class
  least_by_parts c = (
    λ good. record {
      screen = needed_part z content all_but_screen class.screen c.screen found.screen
          (λ e. covered_is_good z content c all_but_screen ((covers_all_but_screen c).1 e) good);
      cursor = needed_part z content all_but_cursor class.cursor c.cursor found.cursor
          (λ e. covered_is_good z content c all_but_cursor ((covers_all_but_cursor c).1 e) good);
      saved = needed_part z content all_but_saved class.saved c.saved found.saved
          (λ e. covered_is_good z content c all_but_saved ((covers_all_but_saved c).1 e) good);
      colours = needed_part z content all_but_colours class.colours c.colours found.colours
          (λ e. covered_is_good z content c all_but_colours ((covers_all_but_colours c).1 e) good);
      wrap = needed_part z content all_but_wrap class.wrap c.wrap found.wrap
          (λ e. covered_is_good z content c all_but_wrap ((covers_all_but_wrap c).1 e) good);
    },
    λ covers. covered_is_good z content class c covers found_is_good,
  )

-- what holds or not is told by a truth
truth_of : {P : Type 0} → P ⊎ ¬ P → (needed : Bool) × ((needed ≡ false) ↔ P)
truth_of (inl holds) = (false, (λ e. holds, λ p. refl))
truth_of (inr not) = (true, (λ e. absurd (cc), λ p. absurd (not p)))

-- content that is good for the cleared start has a least class
pub one_least : (z : Size) (content : List ℕ) → IsGood z all_known content → (class : Start) × IsLeast z content class
one_least z content all =
    let part : (c : Start) → (needed : Bool) × ((needed ≡ false) ↔ IsGood z c content) =
    λ c. truth_of (good_or_not z c all.1.size content all.1.tokens all.1.reads) in
    let class : Start = record {
      screen = (part all_but_screen).0;
      cursor = (part all_but_cursor).0;
      saved = (part all_but_saved).0;
      colours = (part all_but_colours).0;
      wrap = (part all_but_wrap).0;
    } in (
      class,
      least_by_parts z content class all (record {
        screen = (part all_but_screen).1;
        cursor = (part all_but_cursor).1;
        saved = (part all_but_saved).1;
        colours = (part all_but_colours).1;
        wrap = (part all_but_wrap).1;
      }),
    )
