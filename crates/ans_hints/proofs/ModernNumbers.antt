-- Where no number is modern, none is of either kind.
use Rattle.std.proofs.Common.{◌≡◌, ℕ, false, List, [], ◌∷◌, refl}
use Rattle.std.specs.List.{list_any}
use Rattle.std.proofs.lemmas.Bool.{or_parts}
use Rattle.ans_hints.specs.Conditions.{is_later_colour, is_modern, is_off_switch}

pub none_later : (numbers : List ℕ) → list_any is_modern numbers ≡ false → list_any is_later_colour numbers ≡ false
none_later [] none = refl
none_later (n ∷ numbers) none =
    let parts = or_parts (is_modern n) (list_any is_modern numbers) none in
    rw ((or_parts (is_later_colour n) (is_off_switch n) parts.0).0, none_later numbers parts.1) refl

pub none_off : (numbers : List ℕ) → list_any is_modern numbers ≡ false → list_any is_off_switch numbers ≡ false
none_off [] none = refl
none_off (n ∷ numbers) none =
    let parts = or_parts (is_modern n) (list_any is_modern numbers) none in
    rw ((or_parts (is_later_colour n) (is_off_switch n) parts.0).1, none_off numbers parts.1) refl
