-- The digits that the crate `hex` writes are those of `ans_model`.
use Rattle.std.proofs.Common.{◌≡◌, ℕ, zero, suc, ◌/◌, ◌%◌, ◌<◌, Bool, true, ◌&&◌, ◌==◌, List, [], ◌∷◌, ◌++◌, inl, inr}
use Rattle.std.proofs.Common.{Ok, Err, refl, ap₂, arith}
use Rattle.std.specs.Prelude.{slice_index, Result, IsOk, OnOk}
use Rattle.std.proofs.lemmas.Bool.{and_parts, cases_lt, eqb-true}
use Rattle.ans_model.specs.Text.Hexadecimal.{hex_digit, hex_byte}
use Rattle.hex.specs.Hex.{lower_digits, encode_lower, encode_with}

-- whether each of the first n digits is the same
abbrev same_digits : ℕ → Bool
same_digits zero = true
same_digits (suc n) = (slice_index lower_digits n == hex_digit n) && same_digits n

same_digit : (n k : ℕ) → same_digits n ≡ true → k < n → slice_index lower_digits k ≡ hex_digit k
same_digit zero k h lt = absurd (omega arith)
same_digit (suc n) k h lt =
    let parts = and_parts (slice_index lower_digits n == hex_digit n) (same_digits n) h in
    elim (cases_lt k n) [
      | inl below ↦ same_digit n k parts.1 below
      | inr top ↦
          let last : k ≡ n = omega arith in
          rw last (eqb-true (slice_index lower_digits n) (hex_digit n) parts.0)
    ]

-- the digits of a byte, and then those of the others
pub encode_lower-cons : (b : ℕ) (bytes : List ℕ) → b < 256 → encode_lower (b ∷ bytes) ≡ hex_byte b ++ encode_lower bytes
unfolding encode_with
encode_lower-cons b bytes small =
    let high : b / 16 < 16 = omega arith in
    let low : b % 16 < 16 = omega arith in
    ap₂ (λ (x y : ℕ). x ∷ y ∷ encode_lower bytes) (same_digit 16 (b / 16) refl high) (same_digit 16 (b % 16) refl low)

pub encode_lower-nil : encode_lower [] ≡ []
unfolding encode_with
encode_lower-nil = refl

-- what was written where it fits
pub written_ok : {T E : Type 0} (r : Result T E) (P : Type 0) → IsOk r → OnOk r P → P
written_ok (Ok v) P ok h = h
written_ok (Err e) P ok h = (cc ok)
