-- What the hints of tokens are about. Each condition is asked of a token, of the state before it, and of the bytes
-- after it.
use Rattle.std.specs.Prelude.{ℕ, Bool, true, false, not, ◌||◌, ◌&&◌, ◌==◌, nat_eq, nat_le, List, [], ◌∷◌, take}
use Rattle.std.specs.Prelude.{nat_lt, slice_index, if◌then◌else◌}
use Rattle.std.specs.Int.{is_in_range}
use Rattle.std.specs.List.{list_any, starts_with}
use Rattle.std.specs.Str.{is_utf8}
use Rattle.ans_model.specs.Sequence.TokenKind.{TokenKind, Glyph, LineFeed, CarriageReturn, Tab, Place, Restore}
use Rattle.ans_model.specs.Sequence.TokenKind.{Colours}
use Rattle.ans_hints.specs.Places.{Condition}

-- a line feed comes with the cursor not in the first column, and no return follows
abbrev pub loose_line_feed : Condition
loose_line_feed z s LineFeed rest = not (s.cursor.column == 0) && not (starts_with nat_eq rest (0x0D ∷ []))
loose_line_feed z s _ rest = false

-- the tokens that print
abbrev pub prints : TokenKind → Bool
prints (Glyph byte) = true
prints Tab = true
prints _ = false

-- the tokens that set the column, wherever the cursor was: a return, a saved place restored, a place
abbrev pub sets_column : TokenKind → Bool
sets_column CarriageReturn = true
sets_column Restore = true
sets_column (Place row column) = true
sets_column _ = false

-- None of these comes before the next token that prints: a line feed before these tokens may be loose.
abbrev pub keeps_column : List TokenKind → Bool
keeps_column [] = true
keeps_column (t ∷ tokens) = prints t || (not (sets_column t) && keeps_column tokens)

-- how many bytes a character takes in UTF-8 (RFC 3629) if they are three or four: its first byte says it
abbrev pub wide_size : ℕ → ℕ
wide_size first = if nat_lt first 0xF0 then 3 else 4

-- The bytes begin with such a character. A second byte from B0h on does not count: in code page 437 these are shades
-- and boxes, which often follow other characters on purpose.
abbrev pub begins_with_wide : List ℕ → Bool
begins_with_wide bytes =
    nat_le 0xE0 (slice_index bytes 0) && nat_lt (slice_index bytes 1) 0xB0
    && is_utf8 (take (wide_size (slice_index bytes 0)) bytes)

-- A glyph is the first byte of such a character. Its other bytes are below C0h, so none begins inside another.
abbrev pub wide_character : Condition
wide_character z s (Glyph byte) rest = begins_with_wide (byte ∷ rest)
wide_character z s _ rest = false

-- a number by which later terminals set a colour, and ANSI.SYS none
abbrev pub is_later_colour : ℕ → Bool
is_later_colour n = n == 38 || n == 48 || is_in_range 90 97 n || is_in_range 100 107 n

-- colours with such a number
abbrev pub later_colours : Condition
later_colours z s (Colours parameters) rest = list_any is_later_colour parameters
later_colours z s _ rest = false

-- a number by which later terminals switch bold, reverse or a colour off, and ANSI.SYS nothing
abbrev pub is_off_switch : ℕ → Bool
is_off_switch n = n == 22 || n == 27 || n == 39 || n == 49

-- one of both kinds
abbrev pub is_modern : ℕ → Bool
is_modern n = is_later_colour n || is_off_switch n

-- a sequence that switches something off so, and sets no such colour
abbrev pub off_switches : Condition
off_switches z s (Colours parameters) rest =
    list_any is_off_switch parameters && not (list_any is_later_colour parameters)
off_switches z s _ rest = false

-- a glyph is printed with bit 7 of the attribute set
abbrev pub blinking_glyph : Condition
blinking_glyph z s (Glyph byte) rest = nat_le 0x80 s.attribute
blinking_glyph z s _ rest = false

-- a glyph that is seen at all: 00h and FFh look as a blank does
abbrev pub is_seen : ℕ → Bool
is_seen byte = not (byte == 0x20 || byte == 0x00 || byte == 0xFF)

abbrev pub seen_glyph : Condition
seen_glyph z s (Glyph byte) rest = is_seen byte
seen_glyph z s _ rest = false

-- one that is dark grey on black
abbrev pub dark_glyph : Condition
dark_glyph z s (Glyph byte) rest = is_seen byte && s.attribute == 0x08
dark_glyph z s _ rest = false

-- ---- letters and codes of other systems

-- a letter of ASCII
abbrev pub is_small_letter : ℕ → Bool
is_small_letter b = is_in_range 0x61 0x7A b

abbrev pub is_letter : ℕ → Bool
is_letter b = is_in_range 0x41 0x5A b || is_small_letter b

-- the second byte of a letter that takes two bytes in UTF-8 and is one of Latin-1, U+00C0 to U+00FF; multiplied by and
-- divided by are none
abbrev pub is_second_byte : ℕ → Bool
is_second_byte b = is_in_range 0x80 0xBF b && not (b == 0x97) && not (b == 0xB7)

-- The bytes begin with such a letter. If its second byte is B0h or above, a shade or a box in code page 437, a letter
-- follows it.
abbrev pub begins_with_two_byte_letter : List ℕ → Bool
begins_with_two_byte_letter bytes =
    slice_index bytes 0 == 0xC3 && is_second_byte (slice_index bytes 1)
    && (nat_lt (slice_index bytes 1) 0xB0 || is_letter (slice_index bytes 2))

-- a letter, followed by such a one
abbrev pub two_byte_letter : Condition
two_byte_letter z s (Glyph byte) rest = is_letter byte && begins_with_two_byte_letter rest
two_byte_letter z s _ rest = false

-- A small letter of Latin-1: a, o and u with two dots, e with a grave and an acute accent and with a circumflex, n with
-- a tilde, o with the three accents. In code page 437 their bytes are capital Greek letters and signs, which are seldom
-- between letters. Others are left out: theirs are small Greek letters, or signs that are used there on purpose.
abbrev pub is_latin_letter : ℕ → Bool
is_latin_letter b =
    b == 0xE4 || is_in_range 0xE8 0xEA b || is_in_range 0xF1 0xF4 b || b == 0xF6 || b == 0xFC

-- a letter, followed by such a one and a small letter
abbrev pub latin_letter : Condition
latin_letter z s (Glyph byte) rest =
    is_letter byte && is_latin_letter (slice_index rest 0) && is_small_letter (slice_index rest 1)
latin_letter z s _ rest = false

-- a decimal digit, and a hexadecimal one with a capital letter
abbrev pub is_digit : ℕ → Bool
is_digit b = is_in_range 0x30 0x39 b

abbrev pub is_hex_digit : ℕ → Bool
is_hex_digit b = is_digit b || is_in_range 0x41 0x46 b

-- the two digits of a number up to 23, and a letter: after `|`, a pipe code and what it colours
abbrev pub begins_with_pipe_number : List ℕ → Bool
begins_with_pipe_number bytes =
    is_digit (slice_index bytes 1) && is_letter (slice_index bytes 2)
    && (is_in_range 0x30 0x31 (slice_index bytes 0)
    || (slice_index bytes 0 == 0x32 && is_in_range 0x30 0x33 (slice_index bytes 1)))

-- `X` and two hexadecimal digits: after `@`, a code of PCBoard
abbrev pub begins_with_x_number : List ℕ → Bool
begins_with_x_number bytes =
    slice_index bytes 0 == 0x58 && is_hex_digit (slice_index bytes 1) && is_hex_digit (slice_index bytes 2)

-- a colour code of programs for bulletin boards
abbrev pub board_code : Condition
board_code z s (Glyph byte) rest =
    (byte == 0x7C && begins_with_pipe_number rest) || (byte == 0x40 && begins_with_x_number rest)
board_code z s _ rest = false
