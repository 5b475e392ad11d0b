-- What is known of an attribute, and what is known of two, through colour parameters.
use Rattle.std.proofs.Common.{◌≡◌, ℕ, zero, suc, ◌+◌, ◌<◌, ◌^◌, ◌%◌, min, max, Bool, true, refl, sym, ap, ◌∙◌, arith}
use Rattle.std.proofs.Common.{rules, List, [], ◌∷◌, Option, Some, None, lit<}
use Rattle.std.specs.Prelude.{IfSome, ◌&&◌, ◌==◌, bit_and, bit_or, bit_xor}
use Rattle.std.specs.Int.{bit_at}
use Rattle.std.proofs.lemmas.Bool.{and_parts, eqb-true}
use Rattle.std.proofs.lemmas.Nat.{and_le_l, and_le_r, or_of_8, xor_of_8}
use Rattle.std.proofs.lemmas.Nat.Bits.{bit_at_and, bit_at_or, bit_at_xor, bit_at-lt, bit_at_ones, same_from_bits_below}
use Rattle.ans_model.specs.Screen.Attribute.{Rendition, renditions, rendition_of, attribute_by, attribute_after}
use Rattle.ans_model.specs.Screen.Attribute.{attribute_after_all}
use Rattle.ans_model.proofs.AttributeBytes.{IsByteRendition, rendition_fits}
use Rattle.ans_screen.specs.KnownBits.{KnownBits, known_bits, Agrees, known_by, known_after}
use Rattle.ans_screen.proofs.KnownAfter.{agrees_after, and_is_byte}
use Rattle.ans_play.specs.HalfStep.{known_after_all}
use Rattle.ans_play.specs.Meet.{shared_bits, meet_bits}

-- known bits of the same mask and value are the same
same_bits : (k l v w : ℕ) → k ≡ l → v ≡ w → known_bits k v ≡ known_bits l w
same_bits k l v w e f = cc

-- ---- one bit
-- a test of both bits
every_bit : (ℕ → Bool) → Bool
every_bit test = test 0 && test 1

at_bit : (test : ℕ → Bool) → every_bit test ≡ true → (n : ℕ) → n < 2 → test n ≡ true
unfolding every_bit
at_bit test e zero h = (and_parts (test 0) (test 1) e).0
at_bit test e (suc zero) h = (and_parts (test 0) (test 1) e).1
at_bit test e (suc (suc n)) h = absurd (let no : ⊥ = omega arith in no)

-- of a bit that is known or not (k, l) with a value (a, b) in each, and is kept or not (m) and set or not (s):
-- whether both know it after a rendition, as the rendition of what both know has it
abbrev shared_bit_same : ℕ → ℕ → ℕ → ℕ → ℕ → ℕ → Bool
shared_bit_same k l a b m s =
    min (min (max (max (min k m) ((1 + m) % 2)) s) (max (max (min l m) ((1 + m) % 2)) s))
    ((1 + (max (min a m) s + max (min b m) s) % 2) % 2)
    == max (max (min (min (min k l) ((1 + (a + b) % 2) % 2)) m) ((1 + m) % 2)) s

-- and its value
abbrev value_bit_same : ℕ → ℕ → ℕ → ℕ → ℕ → ℕ → Bool
value_bit_same k l a b m s =
    min (max (min a m) s) (min (min (max (max (min k m) ((1 + m) % 2)) s) (max (max (min l m) ((1 + m) % 2)) s))
    ((1 + (max (min a m) s + max (min b m) s) % 2) % 2))
    == max (min (min a (min (min k l) ((1 + (a + b) % 2) % 2))) m) s

-- a test of six bits that passes for all passes for each
six_bits : (test : ℕ → ℕ → ℕ → ℕ → ℕ → ℕ → Bool) →
    every_bit (λ k. every_bit (λ l. every_bit (λ a. every_bit (λ b. every_bit (λ m. every_bit (λ s.
    test k l a b m s)))))) ≡ true →
    (k l a b m s : ℕ) → k < 2 → l < 2 → a < 2 → b < 2 → m < 2 → s < 2 → test k l a b m s ≡ true
six_bits test e k l a b m s p q r t u v =
    at_bit _ (at_bit _ (at_bit _ (at_bit _ (at_bit _ (at_bit _ e k p) l q) a r) b t) m u) s v

shared_bit : (k l a b m s : ℕ) → k < 2 → l < 2 → a < 2 → b < 2 → m < 2 → s < 2 → shared_bit_same k l a b m s ≡ true
unfolding every_bit
shared_bit = six_bits shared_bit_same refl

value_bit : (k l a b m s : ℕ) → k < 2 → l < 2 → a < 2 → b < 2 → m < 2 → s < 2 → value_bit_same k l a b m s ≡ true
unfolding every_bit
value_bit = six_bits value_bit_same refl

-- ---- the bits of a byte
-- the bits that both know, of two masks and two values
abbrev shared : ℕ → ℕ → ℕ → ℕ → ℕ
shared k l a b = bit_and (bit_and k l) (bit_xor 0xff (bit_xor a b))

-- a mask and a value after a rendition
abbrev mask_after : ℕ → ℕ → ℕ → ℕ
mask_after k m s = bit_or (bit_or (bit_and k m) (bit_xor 0xff m)) s

abbrev value_after : ℕ → ℕ → ℕ → ℕ
value_after a m s = bit_or (bit_and a m) s

abbrev shared_after : ℕ → ℕ → ℕ → ℕ → ℕ → ℕ → ℕ
shared_after k l a b m s = shared (mask_after k m s) (mask_after l m s) (value_after a m s) (value_after b m s)

module _ (k l a b m s : ℕ) (lk : k < 2 ^ 8) (ll : l < 2 ^ 8) (la : a < 2 ^ 8) (lb : b < 2 ^ 8) (lm : m < 2 ^ 8)
    (ls : s < 2 ^ 8) where
  -- a test that passes for all bits passes for each of these
  at_each_bit : (test : ℕ → ℕ → ℕ → ℕ → ℕ → ℕ → Bool) → ((k l a b m s : ℕ) → k < 2 → l < 2 → a < 2 → b < 2 → m < 2 →
      s < 2 → test k l a b m s ≡ true) → (i : ℕ) →
      test (bit_at k i) (bit_at l i) (bit_at a i) (bit_at b i) (bit_at m i) (bit_at s i) ≡ true
  at_each_bit test passes i =
      passes _ _ _ _ _ _ (bit_at-lt k i) (bit_at-lt l i) (bit_at-lt a i) (bit_at-lt b i) (bit_at-lt m i) (bit_at-lt s i)

  -- the shared mask after a rendition
  shared_core : 0xff < 2 ^ 8 → shared_after k l a b m s ≡ mask_after (shared k l a b) m s
  shared_core o =
      same_from_bits_below 8 (shared_after k l a b m s) (mask_after (shared k l a b) m s)
      (search (rules, xor_of_8, or_of_8, and_is_byte)) (search (rules, xor_of_8, or_of_8))
      (λ i h. simp (bit_at_and, bit_at_or, bit_at_xor)
      (rw (bit_at_ones 8 i h) (eqb-true _ _ (at_each_bit shared_bit_same shared_bit i))))

  -- the shared value after a rendition
  value_core : 0xff < 2 ^ 8 → bit_and (value_after a m s) (shared_after k l a b m s)
      ≡ value_after (bit_and a (shared k l a b)) m s
  value_core o =
      same_from_bits_below 8 (bit_and (value_after a m s) (shared_after k l a b m s))
      (value_after (bit_and a (shared k l a b)) m s)
      (search (rules, xor_of_8, or_of_8, and_is_byte)) (search (rules, or_of_8))
      (λ i h. simp (bit_at_and, bit_at_or, bit_at_xor)
      (rw (bit_at_ones 8 i h) (eqb-true _ _ (at_each_bit value_bit_same value_bit i))))

-- ---- attributes
-- the mask and the value are bytes
pub record AreBytes (a : KnownBits) : Type 0 where
  pub known : a.known < 256
  pub value : a.value < 256

-- after a rendition, if the parameter has one
meet_after_rendition : (o : Option Rendition) (a b : KnownBits) → IfSome o IsByteRendition → AreBytes a → AreBytes b →
    meet_bits (known_by o a) (known_by o b) ≡ known_by o (meet_bits a b)
meet_after_rendition None a b f p q = refl
meet_after_rendition (Some r) a b f p q =
    same_bits _ _ _ _
    (shared_core a.known b.known a.value b.value r.mask r.set p.known q.known p.value q.value f.mask f.set (lit< tt))
    (value_core a.known b.known a.value b.value r.mask r.set p.known q.known p.value q.value f.mask f.set (lit< tt))

-- a rendition leaves bytes
bytes_after_rendition : (o : Option Rendition) (a : KnownBits) → IfSome o IsByteRendition → AreBytes a →
    AreBytes (known_by o a)
bytes_after_rendition None a f p = p
bytes_after_rendition (Some r) a f p =
    let o : 0xff < 2 ^ 8 = lit< tt in
    let k : a.known < 2 ^ 8 = p.known in
    let v : a.value < 2 ^ 8 = p.value in
    let m : r.mask < 2 ^ 8 = f.mask in
    let s : r.set < 2 ^ 8 = f.set in
    record { known = search (rules, xor_of_8, or_of_8); value = search (rules, or_of_8) }

-- what both know after all parameters is what they knew, after all parameters
pub meet_after_all : (a b : KnownBits) (ps : List ℕ) → AreBytes a → AreBytes b →
    meet_bits (known_after_all a ps) (known_after_all b ps) ≡ known_after_all (meet_bits a b) ps
meet_after_all a b [] p q = refl
meet_after_all a b (n ∷ ps) p q =
    meet_after_all (known_after a n) (known_after b n) ps (bytes_after_rendition _ a (rendition_fits n) p)
    (bytes_after_rendition _ b (rendition_fits n) q)
    ∙ ap (λ (h : KnownBits). known_after_all h ps)
    (meet_after_rendition (rendition_of renditions n) a b (rendition_fits n) p q)

-- what both know are bytes
pub meet_bytes : (a b : KnownBits) → AreBytes a → AreBytes b → AreBytes (meet_bits a b)
meet_bytes a b p q = record {
  known = omega (
    arith,
    p.known,
    and_le_l (bit_and a.known b.known) (bit_xor 0xff (bit_xor a.value b.value)),
    and_le_l a.known b.known,
  );
  value = omega (arith, p.value, and_le_l a.value (shared_bits a b));
}

-- ---- attributes of which all is known
-- a rendition leaves every bit known
every_bit_known : (m s : ℕ) → m < 2 ^ 8 → s < 2 ^ 8 → 0xff < 2 ^ 8 → mask_after 0xff m s ≡ 0xff
every_bit_known m s p q o =
    same_from_bits_below 8 (mask_after 0xff m s) 0xff
    (search (rules, xor_of_8, or_of_8, and_is_byte)) o
    (λ i h. simp (bit_at_and, bit_at_or, bit_at_xor)
    (rw (bit_at_ones 8 i h) (each_bit (bit_at m i) (bit_at s i) (bit_at-lt m i) (bit_at-lt s i))))
  where
    each_bit : (m s : ℕ) → m < 2 → s < 2 → max (max (min 1 m) ((1 + m) % 2)) s ≡ 1
    each_bit m s p q = omega arith

whole_after_rendition : (o : Option Rendition) (a : ℕ) → IfSome o IsByteRendition →
    known_bits 0xff (attribute_by o a) ≡ known_by o (known_bits 0xff a)
whole_after_rendition None a f = refl
whole_after_rendition (Some r) a f = same_bits _ _ _ _ (sym (every_bit_known r.mask r.set f.mask f.set (lit< tt))) refl

-- the attribute is known after all parameters
pub whole_after_all : (a : ℕ) (ps : List ℕ) →
    known_bits 0xff (attribute_after_all a ps) ≡ known_after_all (known_bits 0xff a) ps
whole_after_all a [] = refl
whole_after_all a (n ∷ ps) =
    whole_after_all (attribute_after a n) ps
    ∙ ap (λ (h : KnownBits). known_after_all h ps)
    (whole_after_rendition (rendition_of renditions n) a (rendition_fits n))

-- ---- half-known attributes that agree
pub agrees_after_all : (h : KnownBits) (a : ℕ) (ps : List ℕ) → Agrees h a →
    Agrees (known_after_all h ps) (attribute_after_all a ps)
agrees_after_all h a [] e = e
agrees_after_all h a (p ∷ ps) e = agrees_after_all (known_after h p) (attribute_after a p) ps (agrees_after h a p e)
