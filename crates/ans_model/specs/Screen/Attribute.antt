-- What colour parameters do to an attribute (ANSI.SYS, Set Graphics Rendition): the new one is (old and mask) or set.
use Rattle.std.specs.Prelude.{ℕ, List, [], ◌∷◌, fold, Option, Some, None, if◌then◌else◌, ◌==◌, bit_and, bit_or}

-- a parameter, the bits that it keeps and those that it sets
pub record Rendition : Type 0 where
  pub parameter : ℕ
  pub mask : ℕ
  pub set : ℕ

-- the rendition of a parameter, by its mask and the bits that it sets
abbrev pub rendition : ℕ → ℕ → ℕ → Rendition
rendition parameter mask set = record { parameter = parameter; mask = mask; set = set }

-- What 4, 7 and 8 do is the profile's; so is that any other number changes nothing.
abbrev pub renditions : List Rendition
renditions =
    rendition 0 0x00 0x07
    ∷ rendition 1 0xFF 0x08
    ∷ rendition 4 0xF8 0x01
    ∷ rendition 5 0xFF 0x80
    ∷ rendition 7 0xF8 0x70
    ∷ rendition 8 0x88 0x00
    ∷ rendition 30 0xF8 0x00
    ∷ rendition 31 0xF8 0x04
    ∷ rendition 32 0xF8 0x02
    ∷ rendition 33 0xF8 0x06
    ∷ rendition 34 0xF8 0x01
    ∷ rendition 35 0xF8 0x05
    ∷ rendition 36 0xF8 0x03
    ∷ rendition 37 0xF8 0x07
    ∷ rendition 40 0x8F 0x00
    ∷ rendition 41 0x8F 0x40
    ∷ rendition 42 0x8F 0x20
    ∷ rendition 43 0x8F 0x60
    ∷ rendition 44 0x8F 0x10
    ∷ rendition 45 0x8F 0x50
    ∷ rendition 46 0x8F 0x30
    ∷ rendition 47 0x8F 0x70
    ∷ []

-- the rendition of a parameter, where the table has one
abbrev pub rendition_of : List Rendition → ℕ → Option Rendition
rendition_of [] parameter = None
rendition_of (r ∷ rs) parameter = if parameter == r.parameter then Some r else rendition_of rs parameter

-- the attribute after a rendition; without one it stays
abbrev pub attribute_by : Option Rendition → ℕ → ℕ
attribute_by None old = old
attribute_by (Some r) old = bit_or (bit_and old r.mask) r.set

-- the attribute after a parameter
abbrev pub attribute_after : ℕ → ℕ → ℕ
attribute_after old parameter = attribute_by (rendition_of renditions parameter) old

-- one parameter after the other
abbrev pub attribute_after_all : ℕ → List ℕ → ℕ
attribute_after_all old parameters = fold attribute_after old parameters
