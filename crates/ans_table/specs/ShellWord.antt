-- The name of a file as a word of a command.
use Rattle.std.specs.Prelude.{ℕ, zero, suc, ◌-◌, ◌==◌, ◌||◌, ◌&&◌, Bool, true, not, nat_eq, nat_lt, List, [], ◌∷◌, ◌++◌}
use Rattle.std.specs.Prelude.{codes, length, if◌then◌else◌}
use Rattle.std.specs.Char.{is_ascii_alphanumeric}
use Rattle.std.specs.List.{flat_map, list_all, list_any, starts_with}
use Rattle.std.specs.Str.{is_utf8}
use Rattle.ans_table.specs.NameText.{wide_size}

-- a control byte of ASCII
abbrev pub is_control : ℕ → Bool
is_control b = nat_lt b 0x20 || b == 0x7F

-- Each character of the rest of a name is shown as itself. The first n bytes belong to one that is.
abbrev pub shows_itself : ℕ → List ℕ → Bool
shows_itself n [] = true
shows_itself (suc n) (b ∷ rest) = shows_itself n rest
shows_itself zero (b ∷ rest) =
    if nat_lt b 0x80 then not (is_control b) && shows_itself 0 rest
    else nat_lt 0 (wide_size (b ∷ rest)) && shows_itself (wide_size (b ∷ rest) - 1) rest

-- a name that can be given as a word of a command: each of its characters is shown as itself
abbrev pub can_be_typed : List ℕ → Bool
can_be_typed name = is_utf8 name && shows_itself 0 name

-- `sh` takes the byte as it is
abbrev pub is_plain : ℕ → Bool
is_plain b = is_ascii_alphanumeric b || list_any (nat_eq b) (codes "_./+:@%=,-")

-- it takes each byte of the name so, and there is one
abbrev pub is_plain_word : List ℕ → Bool
is_plain_word name = not (nat_eq (length name) 0) && list_all is_plain name

-- a byte between single quotes: a quote ends them, comes after a backslash, and begins them again
abbrev pub quoted_byte : ℕ → List ℕ
quoted_byte b = if b == 0x27 then codes "'\\''" else b ∷ []

abbrev pub quoted_word : List ℕ → List ℕ
quoted_word name = codes "'" ++ (flat_map quoted_byte name ++ codes "'")

-- what keeps a name from being taken for a flag
abbrev pub dash_front : List ℕ → List ℕ
dash_front name = if starts_with nat_eq name (codes "-") then codes "./" else []

-- a name, between quotes if it needs them
abbrev pub word_text : List ℕ → List ℕ
word_text name = if is_plain_word name then name else quoted_word name

-- the word
abbrev pub shell_word : List ℕ → List ℕ
shell_word name = dash_front name ++ word_text name
