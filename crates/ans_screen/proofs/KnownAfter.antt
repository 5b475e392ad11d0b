-- What is known of an attribute after a parameter: all that is the same, and no more.
use Rattle.std.proofs.Common.{◌≡◌, ℕ, ◌+◌, ◌<◌, ◌^◌, ◌%◌, min, max, sym, ap, subst, ◌∙◌, arith, Option, Some, None}
use Rattle.std.proofs.Common.{lit<, refl}
use Rattle.std.specs.Prelude.{IfSome, bit_and, bit_or, bit_xor}
use Rattle.std.specs.Int.{bit_at}
use Rattle.std.specs.Int.Bits.{or_zero_r}
use Rattle.std.proofs.lemmas.Nat.{and_le_r, or_of_8, xor_of_8}
use Rattle.std.proofs.lemmas.Nat.Bits.{bit_at_and, bit_at_or, bit_at_xor, bit_at-lt, bit_at_ones, same_from_bits}
use Rattle.std.proofs.lemmas.Nat.Bits.{same_from_bits_below}
use Rattle.ans_model.specs.Screen.Attribute.{Rendition, renditions, rendition_of, attribute_by, attribute_after}
use Rattle.ans_model.specs.declared.attribute.Change.{Change}
use Rattle.ans_model.proofs.AttributeBytes.{IsByteRendition, rendition_fits, all_kept}
use Rattle.ans_model.proofs.Changes.{IsChangeBy}
use Rattle.ans_screen.specs.KnownBits.{KnownBits, known_bits, IsKnownBits, Agrees, known_by, known_after}
use Rattle.ans_screen.specs.KnownBits.{AgreesAfter, KnowsJust}

-- ---- a mask m and set bits s, of an attribute a or of the known values, and of the known bits k
abbrev masked : ℕ → ℕ → ℕ → ℕ
masked a m s = bit_or (bit_and a m) s

abbrev known_masked : ℕ → ℕ → ℕ → ℕ
known_masked k m s = bit_or (bit_or (bit_and k m) (bit_xor 0xFF m)) s

-- the same of one bit; o is that of 0xFF
abbrev masked_bit : ℕ → ℕ → ℕ → ℕ
masked_bit a m s = max (min a m) s

abbrev known_masked_bit : ℕ → ℕ → ℕ → ℕ → ℕ
known_masked_bit k m s o = max (max (min k m) ((o + m) % 2)) s

pub and_is_byte : (a m : ℕ) → m < 2 ^ 8 → bit_and a m < 2 ^ 8
and_is_byte a m h = omega (arith, and_le_r a m)

masked_is_byte : (a m s : ℕ) → m < 2 ^ 8 → s < 2 ^ 8 → masked a m s < 2 ^ 8
masked_is_byte a m s hm hs = or_of_8 _ _ (and_is_byte a m hm) hs

known_masked_is_byte : (k m s : ℕ) → m < 2 ^ 8 → s < 2 ^ 8 → known_masked k m s < 2 ^ 8
known_masked_is_byte k m s hm hs =
    let o : 255 < 2 ^ 8 = lit< tt in
    or_of_8 _ _ (or_of_8 _ _ (and_is_byte k m hm) (xor_of_8 _ _ o hm)) hs

-- ---- what agrees with the known bits agrees after them
agrees_at_bit : (a k m s o : ℕ) → a < 2 → k < 2 → m < 2 → s < 2 → o ≡ 1
    → min (masked_bit a m s) (known_masked_bit k m s o) ≡ masked_bit (min a k) m s
agrees_at_bit a k m s o p q r t e = omega arith

masked_agrees : (a k m s : ℕ) → m < 2 ^ 8 → s < 2 ^ 8
    → bit_and (masked a m s) (known_masked k m s) ≡ masked (bit_and a k) m s
masked_agrees a k m s hm hs =
    same_from_bits_below 8 _ _
    (and_is_byte (masked a m s) (known_masked k m s) (known_masked_is_byte k m s hm hs))
    (masked_is_byte (bit_and a k) m s hm hs)
    (λ i h. simp (bit_at_and, bit_at_or, bit_at_xor)
    (agrees_at_bit (bit_at a i) (bit_at k i) (bit_at m i) (bit_at s i) (bit_at 255 i)
    (bit_at-lt a i) (bit_at-lt k i) (bit_at-lt m i) (bit_at-lt s i) (bit_at_ones 8 i h)))

agrees_by : (o : Option Rendition) (k : KnownBits) (a : ℕ) → IfSome o IsByteRendition → Agrees k a
    → Agrees (known_by o k) (attribute_by o a)
agrees_by None k a fits e = e
agrees_by (Some r) k a fits e = rw (← e) (masked_agrees a k.known r.mask r.set fits.mask fits.set)

pub agrees_after : (k : KnownBits) (a n : ℕ) → Agrees k a → Agrees (known_after k n) (attribute_after a n)
agrees_after k a n e = agrees_by (rendition_of renditions n) k a (rendition_fits n) e

-- ---- no bit of the value is outside the known ones
bit_within : (v k i : ℕ) → bit_and v k ≡ v → min (bit_at v i) (bit_at k i) ≡ bit_at v i
bit_within v k i w = sym (bit_at_and v k i) ∙ ap (λ (x : ℕ). bit_at x i) w

within_at_bit : (v k m s o : ℕ) → v < 2 → k < 2 → m < 2 → s < 2 → o ≡ 1 → min v k ≡ v
    → min (masked_bit v m s) (known_masked_bit k m s o) ≡ masked_bit v m s
within_at_bit v k m s o p q r t e f = omega arith

known_bits_by : (o : Option Rendition) (k : KnownBits) → IfSome o IsByteRendition → IsKnownBits k
    → IsKnownBits (known_by o k)
known_bits_by None k fits is = is
known_bits_by (Some r) k fits is = record {
  byte = known_masked_is_byte k.known r.mask r.set fits.mask fits.set;
  within =
      same_from_bits_below 8 _ _
      (and_is_byte (masked k.value r.mask r.set) _ (known_masked_is_byte k.known r.mask r.set fits.mask fits.set))
      (masked_is_byte k.value r.mask r.set fits.mask fits.set)
      (λ i h. simp (bit_at_and, bit_at_or, bit_at_xor)
      (within_at_bit (bit_at k.value i) (bit_at k.known i) (bit_at r.mask i) (bit_at r.set i) (bit_at 255 i)
      (bit_at-lt k.value i) (bit_at-lt k.known i) (bit_at-lt r.mask i) (bit_at-lt r.set i) (bit_at_ones 8 i h)
      (bit_within k.value k.known i is.within)));
}

known_bits_after : (k : KnownBits) (n : ℕ) → IsKnownBits k → IsKnownBits (known_after k n)
known_bits_after k n is = known_bits_by (rendition_of renditions n) k (rendition_fits n) is

-- ---- a known bit is the same in all that agree
same_where_known : (k v a i : ℕ) → bit_at k i ≡ 1 → bit_and a k ≡ v → bit_at a i ≡ bit_at v i
same_where_known k v a i e d =
    let f : min (bit_at a i) (bit_at k i) ≡ bit_at v i =
    sym (bit_at_and a k i) ∙ ap (λ (x : ℕ). bit_at x i) d in
    omega (arith, bit_at-lt a i)

-- ---- and a bit that is not known differs between the value, the least that agrees, and the highest
abbrev highest : ℕ → ℕ → ℕ
highest k v = bit_or v (bit_xor 0xFF k)

highest_is_byte : (k v : ℕ) → k < 2 ^ 8 → v < 2 ^ 8 → highest k v < 2 ^ 8
highest_is_byte k v hk hv = or_of_8 v (bit_xor 0xFF k) hv (xor_of_8 255 k (lit< tt) hk)

highest_agrees_at_bit : (v k o : ℕ) → v < 2 → k < 2 → o ≡ 1 → min v k ≡ v → min (max v ((o + k) % 2)) k ≡ v
highest_agrees_at_bit v k o p q e f = omega arith

highest_agrees : (k v : ℕ) → k < 2 ^ 8 → v < 2 ^ 8 → bit_and v k ≡ v → bit_and (highest k v) k ≡ v
highest_agrees k v hk hv w =
    same_from_bits_below 8 (bit_and (highest k v) k) v (and_is_byte (highest k v) k hk) hv
    (λ i h. simp (bit_at_and, bit_at_or, bit_at_xor)
    (highest_agrees_at_bit (bit_at v i) (bit_at k i) (bit_at 255 i) (bit_at-lt v i) (bit_at-lt k i) (bit_at_ones 8 i h)
    (bit_within v k i w)))

known_where_same_masked : (v k m s o : ℕ) → v < 2 → k < 2 → m < 2 → s < 2 → o ≡ 1 → min v k ≡ v
    → masked_bit v m s ≡ masked_bit (max v ((o + k) % 2)) m s → known_masked_bit k m s o ≡ 1
known_where_same_masked v k m s o p q r t e f g = omega arith

known_where_same : (v k o : ℕ) → v < 2 → k < 2 → o ≡ 1 → min v k ≡ v → v ≡ max v ((o + k) % 2) → k ≡ 1
known_where_same v k o p q e f g = omega arith

known_where_same_by : (o : Option Rendition) (k : KnownBits) (i : ℕ) → i < 8 → IsKnownBits k
    → bit_at (attribute_by o k.value) i ≡ bit_at (attribute_by o (highest k.known k.value)) i
    → bit_at (known_by o k).known i ≡ 1
known_where_same_by None k i l is equal =
    known_where_same (bit_at k.value i) (bit_at k.known i) (bit_at 255 i)
    (bit_at-lt k.value i) (bit_at-lt k.known i) (bit_at_ones 8 i l)
    (bit_within k.value k.known i is.within) (simp (bit_at_or, bit_at_xor) at equal)
known_where_same_by (Some r) k i l is equal =
    simp (bit_at_and, bit_at_or, bit_at_xor)
    (known_where_same_masked (bit_at k.value i) (bit_at k.known i) (bit_at r.mask i) (bit_at r.set i) (bit_at 255 i)
    (bit_at-lt k.value i) (bit_at-lt k.known i) (bit_at-lt r.mask i) (bit_at-lt r.set i) (bit_at_ones 8 i l)
    (bit_within k.value k.known i is.within)
    (simp (bit_at_and, bit_at_or, bit_at_xor) at equal))

knows_just : (k : KnownBits) (n : ℕ) → IsKnownBits k → KnowsJust k n (known_after k n)
knows_just k n is i l = (
  λ known a b la lb da db.
      let after = known_after k n in
      same_where_known after.known after.value (attribute_after a n) i known (agrees_after k a n da)
      ∙ sym (same_where_known after.known after.value (attribute_after b n) i known (agrees_after k b n db)),
  λ same.
      let value : k.value < 256 = rw (← is.within) (and_is_byte k.value k.known is.byte) in
      known_where_same_by (rendition_of renditions n) k i l is
      (same k.value (highest k.known k.value) value (highest_is_byte k.known k.value is.byte value) is.within
      (highest_agrees k.known k.value is.byte value is.within)),
)

-- ---- what the program makes of known bits
pub record IsAfter (a : KnownBits) (parameter : ℕ) (b : KnownBits) : Type 0 where
  pub known_bits : IsKnownBits b
  pub bits : b ≡ known_after a parameter
  pub sound : AgreesAfter a parameter b
  pub exact : KnowsJust a parameter b

is_after : (a b : KnownBits) (n : ℕ) → IsKnownBits a → known_after a n ≡ b → IsAfter a n b
is_after a b n is e = subst (λ (k : KnownBits). IsAfter a n k) e (record {
  known_bits = known_bits_after a n is;
  bits = refl;
  sound = λ x byte agrees. agrees_after a x n agrees;
  exact = knows_just a n is;
})

-- what the program makes of known bits by a change
abbrev changed : KnownBits → Change → KnownBits
changed k change =
    known_bits (bit_or (bit_and k.known change.mask) change.known) (masked k.value change.mask change.set)

or_or : (a b c : ℕ) → bit_or (bit_or a b) c ≡ bit_or a (bit_or b c)
or_or a b c = same_from_bits _ _ (λ i. simp bit_at_or (omega arith))

-- the known bits by the change of a rendition, or by that which changes nothing
known_by_found : (o : Option Rendition) (k : KnownBits) (change : Change) → IsKnownBits k → IsChangeBy o change
    → known_by o k ≡ changed k change
known_by_found None k change is (m, n, s) =
    let byte : k.value < 2 ^ 8 = rw (← is.within) (and_is_byte k.value k.known is.byte) in
    rw (
      m,
      n,
      s,
      or_zero_r (bit_and k.known 255),
      or_zero_r (bit_and k.value 255),
      all_kept k.known is.byte,
      all_kept k.value byte,
    ) refl
known_by_found (Some r) k change is (m, n, s) = rw (m, n, s, or_or) refl

-- by the change that the program finds
pub after_found : (inside a : KnownBits) (n : ℕ) (change : Change) → inside ≡ a → IsKnownBits inside
    → IsChangeBy (rendition_of renditions n) change → IsAfter a n (changed inside change)
after_found inside a n change e is f =
    subst (λ (k : KnownBits). IsAfter k n (changed inside change)) e
    (is_after inside _ n is (known_by_found (rendition_of renditions n) inside change is f))
