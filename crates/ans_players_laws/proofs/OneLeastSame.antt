-- Content in which no kinds but agreed ones arise is the same on every player for one least class of starts.
use Rattle.std.proofs.Common.{◌≡◌, ◌⊎◌, inl, inr, refl, Bool, true, false, ℕ, List}
use Rattle.std.specs.Prelude.{◌↔◌}
use Rattle.ans_model.specs.Screen.State.{Size}
use Rattle.ans_model.specs.Screen.StartClass.{Covers}
use Rattle.ans_model.specs.Screen.StartClass.{all_but_cursor, all_but_saved, all_but_colours, all_but_wrap}
use Rattle.ans_model.specs.declared.start.Start.{Start}
use Rattle.ans_model.specs.Verdict.Good.{IsGood}
use Rattle.ans_model.proofs.ClassLemmas.{covers_both_ways, covers_itself, covers_all_but_cursor, covers_all_but_saved}
use Rattle.ans_model.proofs.ClassLemmas.{covers_all_but_colours, covers_all_but_wrap}
use Rattle.ans_players.specs.declared.difference.Difference.{Difference}
use Rattle.ans_players.specs.Situations.{spelled}
use Rattle.ans_players.specs.Classes.{IsSame, HasOnlyAgreed}
use Rattle.ans_players.proofs.LeastSame.{agreed_is, least_same_is_found, plays_of, same_is}
use Rattle.ans_players_laws.specs.Laws.{LeastSameExists, LeastSameIsOne}
use Rattle.ans_players_laws.proofs.Search.{agreed_or_not}

-- ---- the only one
pub least_same_is_one : LeastSameIsOne
least_same_is_one agreed z content a b least_a least_b =
    covers_both_ways a b
    ((least_a b).0 ((least_b b).1 (covers_itself b)))
    ((least_b a).0 ((least_a a).1 (covers_itself a)))

-- ---- and there is one
module _ (agreed : Difference → Bool) (z : Size) (content : List ℕ) (needs : Start)
    (only_agreed : HasOnlyAgreed agreed z content needs) where
  -- it is the same for a class, or not
  same_or_not : (class : Start) → IsGood z class content ⊎ ¬ IsGood z class content
      → IsSame agreed z class content ⊎ ¬ IsSame agreed z class content
  same_or_not class (inr not_good) = inr (λ same. not_good same.0)
  same_or_not class (inl good) = elim (agreed_or_not agreed z class
      (spelled only_agreed.same.0.1.tokens only_agreed.same.0.1.reads.0) only_agreed.same.0.1.size.some_columns
      (plays_of agreed z content needs only_agreed class good)) [
        | inl each ↦ inl (same_is agreed z content needs only_agreed class good each)
        | inr not_each ↦ inr (λ same. not_each (agreed_is agreed z content needs only_agreed class same))
      ]

-- what holds or not is told by a truth
truth_of : {P : Type 0} → P ⊎ ¬ P → (needed : Bool) × ((needed ≡ false) ↔ P)
truth_of (inl holds) = (false, (λ e. holds, λ p. refl))
truth_of (inr not_so) = (true, (λ e. absurd (let none : ⊥ = cc in none), λ p. absurd (not_so p)))

-- content is good for the class of all parts but one, or not, as its least class has it
good_or_not : {P : Type 0} (needed : Bool) → (needed ≡ false → P) → (P → needed ≡ false) → P ⊎ ¬ P
good_or_not true there back = inr (λ p. let no : true ≡ false = back p in let none : ⊥ = cc in none)
good_or_not false there back = inl (there refl)

pub least_same_exists : LeastSameExists
least_same_exists agreed z content needs only_agreed =
    let part : (c : Start) → IsGood z c content ⊎ ¬ IsGood z c content
    → (needed : Bool) × ((needed ≡ false) ↔ IsSame agreed z c content) =
    λ c known. truth_of (same_or_not agreed z content needs only_agreed c known) in
    let good : (c : Start) (needed : Bool) → (Covers needs c ↔ (needed ≡ false))
    → IsGood z c content ⊎ ¬ IsGood z c content =
    λ c needed covers. good_or_not needed (λ e. (only_agreed.least c).1 (covers.1 e))
    (λ g. covers.0 ((only_agreed.least c).0 g)) in
    let cursor = part all_but_cursor (good all_but_cursor needs.cursor (covers_all_but_cursor needs)) in
    let saved = part all_but_saved (good all_but_saved needs.saved (covers_all_but_saved needs)) in
    let colours = part all_but_colours (good all_but_colours needs.colours (covers_all_but_colours needs)) in
    let wrap = part all_but_wrap (good all_but_wrap needs.wrap (covers_all_but_wrap needs)) in
    let class : Start = record {
      screen = needs.screen;
      cursor = cursor.0;
      saved = saved.0;
      colours = colours.0;
      wrap = wrap.0;
    } in (
      class,
      least_same_is_found agreed z content needs class only_agreed (record {
        screen = refl;
        cursor = cursor.1;
        saved = saved.1;
        colours = colours.1;
        wrap = wrap.1;
      }),
    )
