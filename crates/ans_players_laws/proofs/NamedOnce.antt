-- What is said of the named kinds is said in one way, and the strictest player shows no more.
use Rattle.std.proofs.Common.{◌≡◌, inl, inr, ℕ, zero, suc, ◌<◌, true, refl, ap, ◌∙◌, sym, List, [], ◌∷◌}
use Rattle.std.proofs.Common.{fold, take, Some, arith, subst}
use Rattle.std.proofs.lemmas.Bool.{cases_lt}
use Rattle.std.specs.Prelude.{IsTrue, slice_get}
use Rattle.ans_model.specs.Screen.State.{Size}
use Rattle.ans_model.specs.Screen.StartClass.{cleared, all_known}
use Rattle.ans_model.proofs.Slices.{slice_get-take}
use Rattle.ans_players.specs.declared.difference.Difference.{Difference}
use Rattle.ans_players.specs.Sync.{synced}
use Rattle.ans_players.specs.Situations.{Spelled, spelled, stand_behind}
use Rattle.ans_players.specs.Named.{arises, times_cleared, bytes_before, ArisesFirst}
use Rattle.ans_players.proofs.NamedKinds.{counted, each_is_agreed, all_are_agreed}
use Rattle.ans_players.proofs.OneSpelling.{one_spelling}
use Rattle.ans_players_laws.specs.Laws.{NamedOneWay}
use Rattle.ans_players_laws.specs.Witnesses.{StrictNeedsNamed}
use Rattle.ans_players_laws.proofs.Strict.{strict_tells}

-- ---- one count, and one first offset
-- a token of the first k is one of the list, and what is before it is the same
taken_there : (xs : List Spelled) (k j : ℕ) (x : Spelled) → j < k → slice_get xs j ≡ Some x
    → slice_get (take k xs) j ≡ Some x
taken_there xs k j x lt e = slice_get-take k xs j lt ∙ e

taken_before : (xs : List Spelled) (k j : ℕ) → j < k → take j (take k xs) ≡ take j xs
taken_before xs k zero lt = refl
taken_before [] zero (suc j) lt = refl
taken_before [] (suc k) (suc j) lt = refl
taken_before (x ∷ xs) zero (suc j) lt = absurd (let no : ⊥ = omega arith in no)
taken_before (x ∷ xs) (suc k) (suc j) lt =
    ap (λ (ys : List Spelled). x ∷ ys) (taken_before xs k j (omega arith))

module _ (kind : Difference) (z : Size) (xs : List Spelled) where
  -- before the first there is none
  none_before : (o p : ℕ) (first : ArisesFirst kind z xs o) (other : ArisesFirst kind z xs p) → first.k < other.k → ⊥
  none_before o p first other lt =
      let some : 0 < times_cleared kind z (take other.k xs) =
      counted (λ k. true) kind z (take other.k xs) (synced (cleared z)) first.k first.x
      (taken_there xs other.k first.k first.x lt first.there)
      (subst (λ (ys : List Spelled). IsTrue (arises kind z (fold (stand_behind z) (synced (cleared z)) ys) first.x))
      (sym (taken_before xs other.k first.k lt)) first.arises_there) in
      omega (arith, some, other.not_before)

  one_first : (o p : ℕ) → ArisesFirst kind z xs o → ArisesFirst kind z xs p → o ≡ p
  one_first o p first other =
      first.offset_is ∙ ap (λ (k : ℕ). bytes_before k xs) (elim (cases_lt first.k other.k) [
        | inl lt ↦ absurd (none_before o p first other lt)
        | inr not_lt ↦ elim (cases_lt other.k first.k) [
          | inl gt ↦ absurd (none_before p o other first gt)
          | inr not_gt ↦ omega (arith, not_lt, not_gt)
        ]
      ]) ∙ sym other.offset_is

pub named_one_way : NamedOneWay
named_one_way z content kind count offset other_count other_offset h g =
    let same : spelled g.good.1.tokens g.good.1.reads.0 ≡ spelled h.good.1.tokens h.good.1.reads.0 =
    one_spelling content g.good.1.tokens h.good.1.tokens g.good.1.reads h.good.1.reads in
    let one : count ≡ other_count = sym h.count_is
    ∙ sym (ap (λ (xs : List Spelled). times_cleared kind z xs) same) ∙ g.count_is in (
      one,
      λ some. one_first kind z (spelled h.good.1.tokens h.good.1.reads.0) offset other_offset (h.first some)
          (subst (λ (xs : List Spelled). ArisesFirst kind z xs other_offset) same (g.first (omega (arith, some, one)))),
    )

-- ---- what the strictest player shows
pub strict_needs_named : StrictNeedsNamed
strict_needs_named z agreed content picture good =
    let xs : List Spelled = spelled good.tokens good.reads.0 in
    let w : 0 < z.width = good.size.some_columns in
    let told = strict_tells z all_known agreed content picture good in (
      λ shown. each_is_agreed z agreed xs w (told.0 shown),
      λ each. told.1 (all_are_agreed z agreed xs w each),
    )
