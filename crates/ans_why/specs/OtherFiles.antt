-- Other kinds of file, by their first bytes or by the codes in them.
use Rattle.std.specs.Prelude.{ℕ, ◌+◌, ◌/◌, Bool, not, ◌&&◌, ◌||◌, ◌==◌, nat_eq, nat_le, nat_lt, List, []}
use Rattle.std.specs.Prelude.{◌∷◌, length, slice_index, cond, Option, None, Some, if◌then◌else◌}
use Rattle.std.specs.Int.{is_in_range}
use Rattle.std.specs.List.{list_any, starts_with}
use Rattle.ans_why.specs.declared.known_bytes.Known.{Known}
use Rattle.ans_why.specs.declared.known_bytes.Known.TheVariants as known
use Rattle.ans_why.specs.declared.other_files.Code.{Code}
use Rattle.ans_why.specs.declared.other_files.Code.TheVariants.{Avatar, PcBoard, Pipe, Wildcat}

abbrev pub is_hex_digit : ℕ → Bool
is_hex_digit b = is_in_range 0x30 0x39 b || is_in_range 0x41 0x46 b

-- two digits of a number up to 23
abbrev pub is_pipe_number : ℕ → ℕ → Bool
is_pipe_number tens ones =
    (is_in_range 0x30 0x31 tens && is_in_range 0x30 0x39 ones) || (tens == 0x32 && is_in_range 0x30 0x33 ones)

-- A byte that may follow a pipe code. In a table of numbers a blank, a digit or another pipe follows.
abbrev pub is_code_end : ℕ → Bool
is_code_end b = nat_lt 0x20 b && not (b == 0x7C) && not (is_in_range 0x30 0x39 b)

-- The bytes begin with a code: 16h and 01h; `@X` and two hexadecimal digits; `|` and a number, and something to colour;
-- two hexadecimal digits between two `@`.
abbrev pub begins_with_code : Code → List ℕ → Bool
begins_with_code Avatar bytes = slice_index bytes 0 == 0x16 && slice_index bytes 1 == 0x01
begins_with_code PcBoard bytes =
    slice_index bytes 0 == 0x40 && slice_index bytes 1 == 0x58 && is_hex_digit (slice_index bytes 2)
    && is_hex_digit (slice_index bytes 3)
begins_with_code Pipe bytes =
    slice_index bytes 0 == 0x7C && is_pipe_number (slice_index bytes 1) (slice_index bytes 2)
    && is_code_end (slice_index bytes 3)
begins_with_code Wildcat bytes =
    slice_index bytes 0 == 0x40 && is_hex_digit (slice_index bytes 1) && is_hex_digit (slice_index bytes 2)
    && slice_index bytes 3 == 0x40

-- at how many places it begins
abbrev pub count_codes : Code → List ℕ → ℕ
count_codes code [] = 0
count_codes code (byte ∷ rest) = cond (begins_with_code code (byte ∷ rest)) 1 0 + count_codes code rest

-- at three of them, or more
abbrev pub has_codes : Code → List ℕ → Bool
has_codes code bytes = nat_le 3 (count_codes code bytes)

-- a colour on black or on blue, and no return, line feed or ESC
abbrev pub is_colour : ℕ → Bool
is_colour b = is_in_range 0x01 0x1F b && not (b == 0x0A || b == 0x0D || b == 0x1B)

-- in how many of the bytes' pairs the second one is such a colour
abbrev pub count_colours : List ℕ → ℕ
count_colours (character ∷ (colour ∷ rest)) = cond (is_colour colour) 1 0 + count_colours rest
count_colours bytes = 0

-- BinaryText: a row of 80 pairs or more, and such a colour in half of all pairs
abbrev pub is_binary_text : List ℕ → Bool
is_binary_text bytes = nat_le 160 (length bytes) && nat_le (length bytes / 4) (count_colours bytes)

abbrev pub is_escape : ℕ → Bool
is_escape b = b == 0x1B

-- AVATAR and BinaryText have no ESC
abbrev pub known_without_escapes : List ℕ → Option Known
known_without_escapes bytes =
    if list_any is_escape bytes then None
    else if has_codes Avatar bytes then Some known.Avatar
    else if is_binary_text bytes then Some known.BinaryText
    else None

abbrev pub known_by_codes : List ℕ → Option Known
known_by_codes bytes =
    if has_codes PcBoard bytes then Some known.PcBoard
    else if has_codes Pipe bytes then Some known.Pipe
    else if has_codes Wildcat bytes then Some known.Wildcat
    else None

-- what is known, or otherwise the other
abbrev pub first_known : Option Known → Option Known → Option Known
first_known (Some known) other = Some known
first_known None other = other

-- which other kind of file the bytes are, or begin
abbrev pub known_file : List ℕ → Option Known
known_file bytes =
    if starts_with nat_eq bytes (0x58 ∷ 0x42 ∷ 0x49 ∷ 0x4E ∷ 0x1A ∷ []) then Some known.XBin
    else if starts_with nat_eq bytes (0x50 ∷ 0x4B ∷ 0x03 ∷ 0x04 ∷ []) then Some known.Zip
    else first_known (known_without_escapes bytes) (known_by_codes bytes)
