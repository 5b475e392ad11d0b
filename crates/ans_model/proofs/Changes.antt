-- The table of changes holds what each parameter below 48 changes, and the others change nothing.
use Rattle.std.proofs.Common.{◌≡◌, ℕ, ◌<◌, Option, Some, None, sym, ap, subst, ◌∙◌, arith, refl, List, map, get_or}
use Rattle.std.specs.Prelude.{MatchOption, bit_or, bit_xor}
use Rattle.std.specs.List.{range_with_len}
use Rattle.std.proofs.lemmas.List.FromFn.{get_or-map-range_with_len}
use Rattle.ans_model.specs.Screen.Attribute.{Rendition, renditions, rendition_of}
use Rattle.ans_model.specs.declared.attribute.Change.{Change}
use Rattle.ans_model.specs.declared.attribute.TheConstants.{CHANGES}

-- the change is a rendition's, or changes nothing where there is none
abbrev pub IsChangeBy : Option Rendition → Change → Type 0
IsChangeBy o change =
    MatchOption o ((change.mask ≡ 0xFF) × (change.known ≡ 0x00) × (change.set ≡ 0x00))
    (λ (r : Rendition). (change.mask ≡ r.mask) × (change.known ≡ bit_or (bit_xor 0xFF r.mask) r.set)
    × (change.set ≡ r.set))

abbrev change_by : Option Rendition → Change
change_by None = record { mask = 0xFF; known = 0x00; set = 0x00 }
change_by (Some r) = record { mask = r.mask; known = bit_or (bit_xor 0xFF r.mask) r.set; set = r.set }

is_change_by : (o : Option Rendition) → IsChangeBy o (change_by o)
is_change_by None = (refl, refl, refl)
is_change_by (Some r) = (refl, refl, refl)

table : map (λ p. change_by (rendition_of renditions p)) (range_with_len 0 48) ≡ CHANGES.now
table = refl

pub in_table : (n : ℕ) → n < 48
    → IsChangeBy (rendition_of renditions n) (get_or CHANGES.now n (record { mask = 0; known = 0; set = 0 }))
in_table n l =
    let nothing : Change = record { mask = 0; known = 0; set = 0 } in
    subst (IsChangeBy (rendition_of renditions n))
    (sym (ap (λ (changes : List Change). get_or changes n nothing) (sym table)
    ∙ get_or-map-range_with_len (λ p. change_by (rendition_of renditions p)) 0 48 n n nothing l (omega arith)))
    (is_change_by (rendition_of renditions n))
