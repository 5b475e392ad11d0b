-- What is known of an attribute, and what is known of it after a colour parameter.
use Rattle.std.specs.Prelude.{◌≡◌, ◌↔◌, ℕ, ◌<◌, ◌==◌, Bool, Option, Some, None, bit_and, bit_or, bit_xor}
use Rattle.std.specs.Int.{bit_at}
use Rattle.ans_model.specs.Bytes.{IsByte}
use Rattle.ans_model.specs.Screen.Attribute.{Rendition, renditions, rendition_of, attribute_after}

-- which bits are known, and their values
pub record KnownBits : Type 0 where
  pub known : ℕ
  pub value : ℕ

-- these bits, with these values
abbrev pub known_bits : ℕ → ℕ → KnownBits
known_bits known value = record { known = known; value = value }

-- bits of a byte, and no bit of the value that is not known
pub record IsKnownBits (a : KnownBits) : Type 0 where
  pub byte : IsByte a.known
  pub within : bit_and a.value a.known ≡ a.value

-- the attribute has the known bits
abbrev pub Agrees : KnownBits → ℕ → Type 0
Agrees a attribute = bit_and attribute a.known ≡ a.value

-- all bits are known
abbrev pub is_whole : KnownBits → Bool
is_whole a = a.known == 0xFF

-- A bit is known after a rendition where it was known, or is cleared or set.
abbrev pub known_by : Option Rendition → KnownBits → KnownBits
known_by None a = a
known_by (Some r) a =
    known_bits
    (bit_or (bit_or (bit_and a.known r.mask) (bit_xor 0xFF r.mask)) r.set)
    (bit_or (bit_and a.value r.mask) r.set)

-- what is known after a parameter
abbrev pub known_after : KnownBits → ℕ → KnownBits
known_after a parameter = known_by (rendition_of renditions parameter) a

-- whatever attribute agrees with `a`, after the parameter it agrees with `b`
abbrev pub AgreesAfter : KnownBits → ℕ → KnownBits → Type 0
AgreesAfter a parameter b = (x : ℕ) → IsByte x → Agrees a x → Agrees b (attribute_after x parameter)

-- all attributes that agree with `a` have the same bit `i` after the parameter
abbrev pub SameBitAfter : KnownBits → ℕ → ℕ → Type 0
SameBitAfter a parameter i =
    (x y : ℕ) → IsByte x → IsByte y → Agrees a x → Agrees a y
    → bit_at (attribute_after x parameter) i ≡ bit_at (attribute_after y parameter) i

-- `b` knows a bit exactly where all those attributes have the same one
abbrev pub KnowsJust : KnownBits → ℕ → KnownBits → Type 0
KnowsJust a parameter b = (i : ℕ) → i < 8 → (bit_at b.known i ≡ 1) ↔ SameBitAfter a parameter i
