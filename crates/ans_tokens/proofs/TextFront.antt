-- Bytes from 20h on, which are glyphs.
use Rattle.std.proofs.Common.{◌≡◌, ℕ, ◌+◌, ◌<◌, ◌≤◌, List, length, take, All, inl, inr, ◌⊎◌, refl, sym, subst, arith}
use Rattle.std.proofs.Common.{get_or, Bool, false, true, not, map, ap, ◌∙◌, ◌-◌, w64, zero-add}
use Rattle.std.specs.Int.{trailing_zeros}
use Rattle.std.specs.List.{prefix_len}
use Rattle.std.specs.Simd.Lanes.{mask_l, chunk}
use Rattle.std.proofs.lemmas.Simd.{length-chunk, get_or-chunk, trailing_mask_l}
use Rattle.std.proofs.lemmas.List.Sums.{prefix_len-le-length, prefix_len_passes}
use Rattle.std.proofs.lemmas.Bool.{cases_lt, not-true}
use Rattle.std.proofs.lemmas.Bool.Decides.{nat_tests}
use Rattle.std.proofs.lemmas.List.{get_or-take, length-take-le, take-take}
use Rattle.std.proofs.lemmas.List.Elements.{All-from_get_or, All-take}
use Rattle.ans_model.specs.Bytes.{IsByte}
use Rattle.ans_model.specs.Sequence.TokenKind.{Glyph}
use Rattle.ans_model.specs.Sequence.Reads.{kind_of_byte}
use Rattle.ans_tokens.specs.Glyphs.{IsGlyphByte, is_low}

-- a byte that is not low is a glyph
pub not_low : (b : ℕ) → IsByte b → is_low b ≡ false → IsGlyphByte b
not_low b byte high =
    let above : 0x20 ≤ b = grind (arith, nat_tests, high) in
    let means : Glyph b ≡ kind_of_byte b = grind (arith, nat_tests, above) in
    inl (record {
      byte = b;
      is_byte = byte;
      not_escape = λ e. omega (arith, e, above);
      whole = refl;
      means = means;
    })

-- what holds of the first bytes and of n more
pub first_more : (P : ℕ → Type 0) (bytes : List ℕ) (count n : ℕ) → count + n ≤ length bytes
    → All P (take count bytes) → ((k : ℕ) → count ≤ k → k < count + n → P (get_or bytes k 0))
    → All P (take (count + n) bytes)
first_more P bytes count n room before more =
    All-from_get_or P (take (count + n) bytes) 0 (λ k l.
    let within : k < count + n = omega (arith, l, length-take-le (count + n) bytes room) in
    subst P (sym (get_or-take (count + n) bytes k 0 within)) (at k within (cases_lt k count)))
  where
    at : (k : ℕ) → k < count + n → (k < count) ⊎ (count ≤ k) → P (get_or bytes k 0)
    at k l (inl first) =
        subst P (get_or-take count bytes k 0 first)
        (before k 0 (omega (arith, first, length-take-le count bytes (omega arith))))
    at k l (inr rest) = more k rest l

-- it holds of fewer of them
pub first_fewer : (P : ℕ → Type 0) (bytes : List ℕ) (n count : ℕ) → n ≤ count → All P (take count bytes)
    → All P (take n bytes)
first_fewer P bytes n count fewer all =
    subst (λ (texts : List ℕ). All P texts) (take-take n count bytes fewer) (All-take P n (take count bytes) all)

-- glyphs, and n more bytes of which none is low
pub glyphs_more : (bytes : List ℕ) (count n : ℕ) → count + n ≤ length bytes →
    ((k : ℕ) → k < length bytes → IsByte (get_or bytes k 0)) →
    All IsGlyphByte (take count bytes) →
    ((k : ℕ) → count ≤ k → k < count + n → is_low (get_or bytes k 0) ≡ false) →
    All IsGlyphByte (take (count + n) bytes)
glyphs_more bytes count n room are_bytes before none =
    first_more IsGlyphByte bytes count n room before
    (λ k from below. not_low (get_or bytes k 0) (are_bytes k (omega (arith, below, room))) (none k from below))

-- the bytes before the first low one
pub glyphs_first : (bytes : List ℕ) (n : ℕ) → n ≤ length bytes →
    ((k : ℕ) → k < length bytes → IsByte (get_or bytes k 0)) →
    ((k : ℕ) → 0 ≤ k → k < 0 + n → is_low (get_or bytes k 0) ≡ false) →
    All IsGlyphByte (take n bytes)
glyphs_first bytes n room are_bytes none =
    subst (λ (m : ℕ). All IsGlyphByte (take m bytes)) (zero-add n)
    (glyphs_more bytes 0 n (omega arith) are_bytes (λ k d l. absurd (omega (arith, l))) none)

-- before the lowest bit of the mask of 16 bytes none is such a byte
pub none_before_lowest : (is_such : ℕ → Bool) (bytes : List ℕ) (count mask : ℕ) → count + 16 ≤ length bytes
    → mask ≡ mask_l (map is_such (chunk count 16 bytes)) → 0 < mask → (trailing_zeros w64 mask ≤ 16)
    × ((k : ℕ) → count ≤ k → k < count + trailing_zeros w64 mask → is_such (get_or bytes k 0) ≡ false)
none_before_lowest is_such bytes count mask room is some = rw is (
    let lanes : List ℕ = chunk count 16 bytes in
    let long : length lanes ≡ 16 = length-chunk count 16 bytes room in
    let is_other = λ (b : ℕ). not (is_such b) in
    let found : trailing_zeros w64 (mask_l (map is_such lanes)) ≡ prefix_len is_other lanes =
    trailing_mask_l is_such 64 lanes (omega (arith, long)) (rw is at some) in
    let within : prefix_len is_other lanes ≤ 16 = omega (arith, prefix_len-le-length is_other lanes, long) in (
      omega (arith, found, within),
      λ k from below.
          let j : k - count < prefix_len is_other lanes = omega (arith, found, from, below) in
          let place : count + (k - count) ≡ k = omega (arith, from) in
          let lane : get_or lanes (k - count) 0 ≡ get_or bytes k 0 =
          get_or-chunk count 16 bytes (k - count) 0 (omega (arith, j, within))
          ∙ ap (λ (i : ℕ). get_or bytes i 0) place in
          not-true (is_such (get_or bytes k 0)) (subst (λ (b : ℕ). not (is_such b) ≡ true) lane
          (prefix_len_passes is_other lanes (k - count) 0 j)),
    ))
