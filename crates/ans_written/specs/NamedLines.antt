-- The name of a file before each line of a text.
use Rattle.std.specs.Prelude.{ℕ, Bool, true, List, [], ◌∷◌, ◌++◌, ◌==◌, codes, if◌then◌else◌}
use Rattle.ans_table.specs.NameText.{name_text}

-- the name of a file, before what is said of it
abbrev pub front_of : List ℕ → List ℕ
front_of name = name_text name ++ codes ": "

-- the name if a line starts
abbrev pub start_of : List ℕ → Bool → List ℕ
start_of name starts = if starts then front_of name else []

-- a byte of a text, after the name if a line starts there
abbrev pub byte_after : List ℕ → Bool → ℕ → List ℕ
byte_after name starts byte = start_of name starts ++ byte ∷ []

-- The rest of a text, with the name before each line that starts in it. A line starts after a line feed; whether
-- one starts at the first byte is given.
abbrev pub lines_after : List ℕ → Bool → List ℕ → List ℕ
lines_after name starts [] = []
lines_after name starts (byte ∷ text) = byte_after name starts byte ++ lines_after name (byte == 0x0A) text

-- a text with the name of a file before each line
abbrev pub named_lines : List ℕ → List ℕ → List ℕ
named_lines name text = lines_after name true text
