-- Where the first of 16 bytes stands that passes a test, by the mask of those that do.
use Rattle.std.proofs.Common.{◌≡◌, ℕ, ◌<◌, ◌≤◌, Bool, false, not, ◌&&◌, List, map, length, get_or, w64}
use Rattle.std.proofs.Common.{sym, ap, ◌∙◌, arith, eqb-true}
use Rattle.std.specs.Prelude.{◌==◌}
use Rattle.std.specs.Int.{trailing_zeros}
use Rattle.std.specs.List.{prefix_len}
use Rattle.std.specs.Simd.Lanes.{mask_l, chunk}
use Rattle.std.proofs.lemmas.Bool.{and_right, ne_eqb, not-false}
use Rattle.std.proofs.lemmas.Simd.{length-chunk, none_from_empty_mask, trailing_mask_l}
use Rattle.std.proofs.lemmas.Simd.{run_in_chunk_fails, run_in_chunk_le}
use Rattle.ans_model.specs.Screen.State.{cell}
use Rattle.ans_redraw.specs.Form.{is_blank}

module _ (p : ℕ → Bool) (bytes : List ℕ) (mask : ℕ) (room : 16 ≤ length bytes)
    (is : mask ≡ mask_l (map p (chunk 0 16 bytes))) where
  -- none, where the mask is empty
  pub in_none : mask ≡ 0 → (k : ℕ) → k < 16 → p (get_or bytes k 0) ≡ false
  in_none empty k lt =
      none_from_empty_mask p bytes 0 16 0 (omega arith) (sym is ∙ empty) k (omega arith) (omega arith)

  counted : 0 < mask → trailing_zeros w64 mask ≡ prefix_len (λ (x : ℕ). not (p x)) (chunk 0 16 bytes)
  counted some =
      ap (trailing_zeros w64) is
      ∙ trailing_mask_l p 64 (chunk 0 16 bytes) (omega (arith, length-chunk 0 16 bytes (omega arith))) (rw is at some)

  pub first_within : 0 < mask → trailing_zeros w64 mask ≤ 16
  first_within some = run_in_chunk_le p bytes 0 16 (trailing_zeros w64 mask) 0 (omega arith) (counted some)

  -- none before the first
  pub before_first : 0 < mask → (k : ℕ) → k < trailing_zeros w64 mask → p (get_or bytes k 0) ≡ false
  before_first some k lt =
      run_in_chunk_fails p bytes 0 16 (trailing_zeros w64 mask) 0 (omega arith) (counted some) k (omega arith)
      (omega arith)

-- not another byte
pub same_byte : (a b : ℕ) → not (a == b) ≡ false → a ≡ b
same_byte a b h = eqb-true a b (not-false (a == b) h)

-- ---- no blanks
pub coloured_no_blank : (b a : ℕ) → (a ≡ 0x07 → ⊥) → is_blank (cell b a) ≡ false
coloured_no_blank b a apart = and_right (b == 0x20) (a == 0x07) (ne_eqb a 0x07 apart)

pub other_no_blank : (b a : ℕ) → (b == 0x20) ≡ false → is_blank (cell b a) ≡ false
other_no_blank b a h = ap (λ (t : Bool). t && (a == 0x07)) h
