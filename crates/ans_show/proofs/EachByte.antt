-- What holds of each byte, by a test of them all.
use Rattle.std.proofs.Common.{◌≡◌, inl, inr, ℕ, zero, suc, ◌<◌, Bool, true, sym, subst, arith}
use Rattle.std.specs.Prelude.{◌&&◌}
use Rattle.std.proofs.lemmas.Bool.{cases_eq, and_parts}

-- the test holds of each number below n
abbrev pub all_below : ℕ → (ℕ → Bool) → Bool
all_below zero p = true
all_below (suc n) p = p n && all_below n p

-- a test that holds below n holds at each number below n
pub holds_at : (n : ℕ) (p : ℕ → Bool) → all_below n p ≡ true → (k : ℕ) → k < n → p k ≡ true
holds_at zero p h k lt = absurd (omega arith)
holds_at (suc n) p h k lt = elim (cases_eq k n) [
  | inl e ↦ subst (λ (i : ℕ). p i ≡ true) (sym e) (and_parts (p n) (all_below n p) h).0
  | inr ne ↦ holds_at n p (and_parts (p n) (all_below n p) h).1 k (omega arith)
]
