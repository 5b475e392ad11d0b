-- Where the last record is, and its tail.
use Rattle.std.proofs.Common.{◌≡◌, inl, inr, ℕ, List, Some, None, arith, false, drop, sym, ◌∙◌, true≢false}
use Rattle.std.proofs.lemmas.Bool.{cases_lt}
use Rattle.ans_sauce.specs.Found.{IsLastRecord}
use Rattle.ans_mend.specs.Tail.{HasTail, ends_in_tail}

-- there is only one last place
one_place : (file : List ℕ) (p q : ℕ) → IsLastRecord file (Some p) → IsLastRecord file (Some q) → p ≡ q
one_place file p q hp hq = elim (cases_lt p q) [
  | inl up ↦ absurd (hp.0.after q (omega (arith, up)) hq.0.high hq.1)
  | inr down ↦ elim (cases_lt q p) [
    | inl up ↦ absurd (hq.0.after p (omega (arith, up)) hp.0.high hp.1)
    | inr level ↦ omega (arith, down, level)
  ]
]

-- a file that does not end in a tail from its last record on has none
pub no_tail : (file : List ℕ) (place : ℕ) → IsLastRecord file (Some place) → ends_in_tail (drop place file) ≡ false
    → (p : ℕ) → ¬ HasTail file p
no_tail file place last other p tail =
    let same : p ≡ place = one_place file p place tail.last last in
    true≢false (sym (rw same at tail.tail) ∙ other)

-- nor has a file without a record
pub nothing_last : (file : List ℕ) → IsLastRecord file None → (p : ℕ) → ¬ HasTail file p
nothing_last file no_record p tail = no_record p (omega arith) tail.last.0.high tail.last.1
