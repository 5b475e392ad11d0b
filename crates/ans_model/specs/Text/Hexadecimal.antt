-- Bytes as two lower-case hexadecimal digits, and back.
use Rattle.std.specs.Prelude.{ℕ, ◌+◌, ◌-◌, ◌/◌, ◌%◌, nat_lt, List, [], ◌∷◌, if◌then◌else◌}

-- `0` to `9`, then `a` to `f`
abbrev pub hex_digit : ℕ → ℕ
hex_digit n = if nat_lt n 10 then 0x30 + n else 0x61 + (n - 10)

-- the two digits of a byte, the higher one first
abbrev pub hex_byte : ℕ → List ℕ
hex_byte b = hex_digit (b / 16) ∷ hex_digit (b % 16) ∷ []

-- the number of a digit
abbrev pub hex_value : ℕ → ℕ
hex_value d = if nat_lt d 0x61 then d - 0x30 else d - 0x61 + 10
