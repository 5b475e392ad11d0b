-- An attribute stays a byte.
use Rattle.std.proofs.Common.{◌≡◌, ℕ, ◌<◌, ◌^◌, Bool, true, false, refl, List, [], ◌∷◌, Option, Some, None, arith}
use Rattle.std.specs.Prelude.{◌&&◌, ◌==◌, ◌%◌, nat_lt, IfSome, bit_and, bit_or, if◌then◌else◌}
use Rattle.std.specs.List.{list_all}
use Rattle.std.proofs.lemmas.Bool.{ltb-true, and_parts}
use Rattle.std.proofs.lemmas.Nat.{and_le_r, or_of_8}
use Rattle.std.specs.Int.Bits.{or_zero_r}
use Rattle.std.proofs.lemmas.Grind.{and_numeral}
use Rattle.ans_model.specs.Screen.Attribute.{Rendition, renditions, rendition_of, attribute_by, attribute_after}
use Rattle.ans_model.specs.Screen.Attribute.{attribute_after_all}
use Rattle.ans_model.specs.declared.attribute.Change.{Change}
use Rattle.ans_model.proofs.Changes.{IsChangeBy}

-- the mask and the set bits are bytes
pub record IsByteRendition (r : Rendition) : Type 0 where
  pub mask : r.mask < 2 ^ 8
  pub set : r.set < 2 ^ 8

-- the mask and the set bits are bytes, as a test
abbrev fits : Rendition → Bool
fits r = nat_lt r.mask 256 && nat_lt r.set 256

-- what is found in a table of bytes is bytes
found_fits : (rs : List Rendition) (p : ℕ) → list_all fits rs ≡ true → IfSome (rendition_of rs p) IsByteRendition
found_fits [] p h = tt
found_fits (r ∷ rs) p h =
    let t : (fits r ≡ true) × (list_all fits rs ≡ true) = and_parts (fits r) (list_all fits rs) h in
    here (p == r.parameter) t.0 (found_fits rs p t.1)
  where
    here : (b : Bool) → fits r ≡ true → IfSome (rendition_of rs p) IsByteRendition
        → IfSome (if b then Some r else rendition_of rs p) IsByteRendition
    here true f more =
        let bytes : (nat_lt r.mask 256 ≡ true) × (nat_lt r.set 256 ≡ true) =
        and_parts (nat_lt r.mask 256) (nat_lt r.set 256) f in
        record { mask = ltb-true r.mask 256 bytes.0; set = ltb-true r.set 256 bytes.1 }
    here false f more = more

-- the renditions are bytes
pub rendition_fits : (p : ℕ) → IfSome (rendition_of renditions p) IsByteRendition
rendition_fits p = found_fits renditions p refl

-- a rendition of bytes leaves a byte a byte
attribute_by_lt : (o : Option Rendition) (a : ℕ) → IfSome o IsByteRendition → a < 2 ^ 8 → attribute_by o a < 2 ^ 8
attribute_by_lt None a f h = h
attribute_by_lt (Some r) a f h = or_of_8 (bit_and a r.mask) r.set (omega (arith, and_le_r a r.mask, f.mask)) f.set

-- a mask of all bits leaves a byte as it is
pub all_kept : (a : ℕ) → a < 2 ^ 8 → bit_and a 0xFF ≡ a
all_kept a h =
    let e : bit_and a 255 ≡ a % 256 = and_numeral a 254 refl in
    rw e (omega arith)

-- an attribute by the change of a rendition, or by that which changes nothing
pub attribute_by_found : (o : Option Rendition) (a : ℕ) (change : Change) → a < 2 ^ 8 → IsChangeBy o change
    → bit_or (bit_and a change.mask) change.set ≡ attribute_by o a
attribute_by_found None a change h (m, k, s) = rw (m, s, or_zero_r (bit_and a 255)) (all_kept a h)
attribute_by_found (Some r) a change h (m, k, s) = rw (m, s) refl

pub attribute_after_lt : (a p : ℕ) → a < 256 → attribute_after a p < 256
attribute_after_lt a p h = attribute_by_lt (rendition_of renditions p) a (rendition_fits p) h

pub attribute_after_all_lt : (a : ℕ) (ps : List ℕ) → a < 256 → attribute_after_all a ps < 256
attribute_after_all_lt a [] h = h
attribute_after_all_lt a (p ∷ ps) h = attribute_after_all_lt (attribute_after a p) ps (attribute_after_lt a p h)
