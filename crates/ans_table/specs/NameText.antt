-- How the name of a file is shown: so that it writes nothing to a terminal but characters, in one column.
use Rattle.std.specs.Prelude.{ℕ, zero, suc, ◌-◌, ◌==◌, ◌||◌, ◌&&◌, Bool, false, not, nat_lt, List, [], ◌∷◌, ◌++◌}
use Rattle.std.specs.Prelude.{if◌then◌else◌}
use Rattle.std.specs.Int.{is_in_range}
use Rattle.std.specs.Option.{option_map_or}
use Rattle.bstr.specs.Utf8.{decoded}
use Rattle.ans_model.specs.Text.Hexadecimal.{hex_byte}

-- `\xHH`
abbrev pub byte_escape : ℕ → List ℕ
byte_escape b = 0x5C ∷ 0x78 ∷ hex_byte b

-- a byte below 80h: a tab is `\t`, a line end `\n`, a backslash `\\`, another control byte `\xHH`
abbrev pub ascii_shown : ℕ → List ℕ
ascii_shown b =
    if b == 0x09 then 0x5C ∷ 0x74 ∷ []
    else if b == 0x0A then 0x5C ∷ 0x6E ∷ []
    else if b == 0x5C then 0x5C ∷ 0x5C ∷ []
    else if nat_lt b 0x20 || b == 0x7F then byte_escape b
    else b ∷ []

-- a character that turns the direction of the text around it, or hides in it
abbrev pub turns_or_hides : ℕ → Bool
turns_or_hides c =
    c == 0x061C || is_in_range 0x200B 0x200F c || is_in_range 0x202A 0x202E c || is_in_range 0x2060 0x2069 c
    || c == 0xFEFF

-- a character that is shown as itself comes after the control characters of C1, and does neither
abbrev pub is_shown : ℕ → Bool
is_shown c = nat_lt 0x9F c && not (turns_or_hides c)

-- the length of the character that the bytes begin with, where it is shown as itself; else 0
abbrev pub wide_size : List ℕ → ℕ
wide_size bytes = if option_map_or is_shown (decoded bytes).char false then (decoded bytes).size else 0

-- the rest of a name, of which the first n bytes belong to a character that is shown as itself
abbrev pub name_after : ℕ → List ℕ → List ℕ
name_after n [] = []
name_after (suc n) (b ∷ rest) = b ∷ name_after n rest
name_after zero (b ∷ rest) =
    if nat_lt b 0x80 then ascii_shown b ++ name_after 0 rest
    else if nat_lt 0 (wide_size (b ∷ rest)) then b ∷ name_after (wide_size (b ∷ rest) - 1) rest
    else byte_escape b ++ name_after 0 rest

-- a name: its characters, and by escapes a backslash, the control characters, those that turn or hide text, and each
-- byte that is not UTF-8
abbrev pub name_text : List ℕ → List ℕ
name_text name = name_after 0 name
