-- Bytes and limits that the definitions name.
use Rattle.std.specs.Prelude.{ℕ, ◌<◌}

-- a number that fits a byte
abbrev pub IsByte : ℕ → Type 0
IsByte b = b < 256

-- ANSI.SYS: begins an escape sequence
abbrev pub escape : ℕ
escape = 0x1B

-- `[`, which follows ESC
abbrev pub bracket : ℕ
bracket = 0x5B

-- `;`, between the parameters of a sequence
abbrev pub semicolon : ℕ
semicolon = 0x3B

-- `"`
abbrev pub double_quote : ℕ
double_quote = 0x22

-- `'`
abbrev pub single_quote : ℕ
single_quote = 0x27

-- SAUCE 00.5: the end of file character, before the comments and the record
abbrev pub end_mark : ℕ
end_mark = 0x1A

-- the character of code page 437 that erased cells hold
abbrev pub blank : ℕ
blank = 0x20

-- the largest number in a sequence (profile)
abbrev pub largest_number : ℕ
largest_number = 255

-- the most parameters of a sequence (profile)
abbrev pub most_parameters : ℕ
most_parameters = 16

-- the largest width, in columns (profile)
abbrev pub most_columns : ℕ
most_columns = 1024

-- the most lines that a record may state (profile)
abbrev pub most_lines : ℕ
most_lines = 8192

-- the largest file (profile)
abbrev pub longest_file : ℕ
longest_file = 16777216
