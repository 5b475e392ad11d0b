-- Records that a transfer as text has made longer.
use Rattle.std.specs.Prelude.{ℕ, ◌+◌, Bool, ◌&&◌, ◌==◌, nat_lt, List, [], ◌∷◌, length, slice_index, if◌then◌else◌}
use Rattle.std.specs.Prelude.{Option, None, Some}

-- how many line feeds of the bytes follow a return
abbrev pub pairs : List ℕ → ℕ
pairs [] = 0
pairs (b ∷ bytes) = (if b == 0x0D && slice_index bytes 0 == 0x0A then 1 else 0) + pairs bytes

-- Such a transfer puts a return before each line feed of a record, which is then longer by its pairs.
abbrev pub is_grown : List ℕ → Bool
is_grown bytes = nat_lt 0 (pairs bytes) && length bytes == 128 + pairs bytes

-- by how many returns
abbrev pub grown_by : List ℕ → Option ℕ
grown_by bytes = if is_grown bytes then Some (pairs bytes) else None
