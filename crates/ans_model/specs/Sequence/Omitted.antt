-- Omitted numbers of a colour sequence.
use Rattle.std.specs.Prelude.{ℕ, ◌||◌, ◌&&◌, Bool, false, ◌==◌, List, ◌∷◌}
use Rattle.ans_model.specs.Bytes.{bracket, semicolon}

-- a byte after which a member begins, and one that ends a number of a colour sequence
abbrev pub opens_member : ℕ → Bool
opens_member byte = byte == bracket || byte == semicolon

abbrev pub ends_colour : ℕ → Bool
ends_colour byte = byte == semicolon || byte == 0x6D

-- a number of a colour sequence is omitted: `;` or `m` comes after `[` or `;`
abbrev pub omits : List ℕ → Bool
omits (a ∷ b ∷ rest) = (opens_member a && ends_colour b) || omits (b ∷ rest)
omits _ = false
