-- The first cell that is not known, and the first gap in the planes of what is known.
use Rattle.std.proofs.Common.{◌≡◌, ℕ, ◌+◌, ◌<◌, List, length, get_or, Some, None, Bool, true}
use Rattle.std.proofs.Common.{refl, ap, sym, ◌∙◌, arith, inl, inr}
use Rattle.std.specs.List.{position, position_or_len}
use Rattle.std.proofs.lemmas.Bool.Decides.{eqb_tells}
use Rattle.std.proofs.lemmas.Bool.{cases_lt, lt-ltb, le-ltb}
use Rattle.ans_screen.specs.GridEdits.{is_unknown}
use Rattle.ans_screen.specs.CellPlanes.{cell_of, AreKnown}

-- ---- one cell
pub unknown_cell : (g k b v : ℕ) → (k ≡ 0xFF → b ≡ 0xFF → ⊥) → is_unknown (cell_of g k b v) ≡ true
unknown_cell g k b v gap = elim (eqb_tells k 0xFF) [
  | inr other ↦ rw other.0 refl
  | inl same ↦ elim (eqb_tells b 0xFF) [
    | inr other ↦ rw (same.0, other.0) refl
    | inl known ↦ absurd (gap same.1 known.1)
  ]
]

-- one more cell
pub known_next : (ks bs : List ℕ) (n : ℕ) → AreKnown ks bs n → get_or ks n 0 ≡ 0xFF → get_or bs n 0 ≡ 0xFF
    → AreKnown ks bs (n + 1)
known_next ks bs n before k b i lt = elim (cases_lt i n) [
  | inl below ↦ before i below
  | inr above ↦
      let at : n ≡ i = omega arith in
      (ap (λ (j : ℕ). get_or ks j 0) (sym at) ∙ k, ap (λ (j : ℕ). get_or bs j 0) (sym at) ∙ b)
]

-- ---- the first that passes
pub position_none : {X : Type 0} (p : X → Bool) (xs : List X) → position_or_len p xs ≡ length xs → position p xs ≡ None
position_none p xs e = let none = le-ltb (position_or_len p xs) (length xs) (omega arith) in rw none refl

pub position_some : {X : Type 0} (p : X → Bool) (xs : List X) (i : ℕ) → position_or_len p xs ≡ i → i < length xs
    → position p xs ≡ Some i
position_some p xs i e lt =
    let some = lt-ltb (position_or_len p xs) (length xs) (omega arith) in
    rw some (ap (λ (n : ℕ). Some n) e)
