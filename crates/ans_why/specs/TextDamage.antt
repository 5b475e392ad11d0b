-- Damage on the way of a text: forms of bytes, how often each comes, and from how many on it is reported.
use Rattle.std.specs.Prelude.{◌≡◌, ℕ, ◌+◌, Bool, false, ◌&&◌, ◌||◌, ◌==◌, not, nat_eq, nat_le, List, [], ◌∷◌}
use Rattle.std.specs.Prelude.{Option, None, Some, drop, is_some, option_and_then, slice_index, if◌then◌else◌}
use Rattle.std.specs.Int.{is_in_range}
use Rattle.std.specs.List.{count_by, list_any, position, starts_with}
use Rattle.ans_forms.specs.Pieces.{begins_with_form}
use Rattle.ans_pens.specs.Counted.{count_of, counted}
use Rattle.ans_pens.specs.declared.times.Times.{Times}
use Rattle.ans_why.specs.declared.text_damage.Sought.{Sought}
use Rattle.ans_why.specs.declared.text_damage.Sought.TheVariants.{Lost, Shown, Short, Pairs, Wide, OtherHigh, MovesRow}
use Rattle.ans_why.specs.declared.text_damage.TextDamage.{TextDamage}
use Rattle.ans_why.specs.declared.text_damage.TheConstants.{COLOURS_OR_PLACE, CLEAR_OR_RIGHT, CARET, ARROW, SHORT}
use Rattle.ans_why.specs.declared.text_damage.TheConstants.{PLACE, UP_OR_DOWN}

-- A form, of the byte before it (00h before the first one) and the bytes from here on.
abbrev pub Form : Type 0
Form = ℕ → List ℕ → Bool

-- `[`, numbers and `m`, `H`, `C` or `J`
abbrev pub lost_escape : Form
lost_escape before bytes =
    begins_with_form COLOURS_OR_PLACE bytes || begins_with_form CLEAR_OR_RIGHT bytes

-- `^[` or `<-` in place of ESC, before `[`, numbers and `m`
abbrev pub shown_escape : Form
shown_escape before bytes = begins_with_form CARET bytes || begins_with_form ARROW bytes

-- 9Bh before numbers and `m`
abbrev pub short_escape : Form
short_escape before bytes = begins_with_form SHORT bytes

-- a character of Latin-1 above 7Fh in the two bytes of UTF-8
abbrev pub is_pair : ℕ → ℕ → Bool
is_pair first second = is_in_range 0xC2 0xC3 first && is_in_range 0x80 0xBF second

-- such a character, and another directly after it
abbrev pub pair_of_pairs : Form
pair_of_pairs before bytes =
    is_pair (slice_index bytes 0) (slice_index bytes 1) && is_pair (slice_index bytes 2) (slice_index bytes 3)

-- a character of UTF-8 in three bytes, as blocks, boxes and arrows have it: E2h, 80h to AFh, and 80h to BFh
abbrev pub wide_character : Form
wide_character before bytes =
    slice_index bytes 0 == 0xE2 && is_in_range 0x80 0xAF (slice_index bytes 1)
    && is_in_range 0x80 0xBF (slice_index bytes 2)

-- a byte above 7Fh that is no part of such a pair
abbrev pub other_high : Form
other_high before bytes =
    nat_le 0x80 (slice_index bytes 0) && not (is_pair (slice_index bytes 0) (slice_index bytes 1))
    && not (is_pair before (slice_index bytes 0))

-- a sequence that takes the cursor to another row: a place, or a move up or down
abbrev pub moves_row : Form
moves_row before bytes = begins_with_form PLACE bytes || begins_with_form UP_OR_DOWN bytes

-- with the times that the form comes in the bytes, which begin at the offset and follow this byte
abbrev pub counted_on : Form → Option Times → ℕ → ℕ → List ℕ → Option Times
counted_on form times before offset [] = times
counted_on form times before offset (b ∷ bytes) =
    counted_on form (counted times (form before (b ∷ bytes)) offset) b (offset + 1) bytes

-- how often the form comes, and where first
abbrev pub times_of : Form → List ℕ → Option Times
times_of form bytes = counted_on form None 0x00 0 bytes

-- the same, if it comes so often at least
abbrev pub at_least : ℕ → Option Times → Option Times
at_least least times = if nat_le least (count_of times) then times else None

-- the form comes in the bytes, which follow this one
abbrev pub comes_in : Form → ℕ → List ℕ → Bool
comes_in form before [] = false
comes_in form before (b ∷ bytes) = form before (b ∷ bytes) || comes_in form b bytes

-- how often it comes, if that is so often at least, and if nothing speaks against it
abbrev pub times_unless : Bool → ℕ → Form → List ℕ → Option Times
times_unless not least form bytes = if not then None else at_least least (times_of form bytes)

abbrev pub is_escape : ℕ → Bool
is_escape b = b == 0x1B

abbrev pub is_line_feed : ℕ → Bool
is_line_feed b = b == 0x0A

abbrev pub is_return : ℕ → Bool
is_return b = b == 0x0D

-- Bytes that were read as Latin-1 and written as UTF-8: many such pairs of pairs, and no other byte above 7Fh.
abbrev pub converted : List ℕ → Option Times
converted bytes = times_unless (comes_in other_high 0x00 bytes) 8 pair_of_pairs bytes

abbrev pub wide_characters : List ℕ → Option Times
wide_characters bytes = times_of wide_character bytes

-- Four returns at least, and no line feed; after the first of them nothing takes the cursor to another row.
abbrev pub lone_returns_from : ℕ → List ℕ → Option Times
lone_returns_from first rest = if comes_in moves_row 0x00 rest then None
    else at_least 4 (Some (record { count = count_by is_return rest; first = first }))

abbrev pub lone_returns : List ℕ → Option Times
lone_returns bytes = if list_any is_line_feed bytes then None
    else option_and_then (λ first. lone_returns_from first (drop first bytes)) (position is_return bytes)

-- the mark of UTF-8
abbrev pub begins_with_mark : List ℕ → Bool
begins_with_mark bytes = starts_with nat_eq bytes (0xEF ∷ 0xBB ∷ 0xBF ∷ [])

-- What is reported of a content. Sequences that lost their ESC are reported if there is no ESC at all.
pub record IsDamage (bytes : List ℕ) (damage : TextDamage) : Type 0 where
  pub lost : damage.lost_escapes ≡ times_unless (list_any is_escape bytes) 4 lost_escape bytes
  pub shown : damage.shown_escapes ≡ times_unless (list_any is_escape bytes) 2 shown_escape bytes
  pub short : damage.short_escapes ≡ times_unless (list_any is_escape bytes) 2 short_escape bytes
  pub converted_are : damage.converted ≡ converted bytes
  pub wide : damage.wide_characters ≡ wide_characters bytes
  pub returns : damage.returns ≡ lone_returns bytes
  pub mark : damage.mark ≡ begins_with_mark bytes

-- If ESC became two characters it is not reported as lost too.
abbrev pub lost_told : TextDamage → Option Times
lost_told damage = if is_some damage.shown_escapes then None else damage.lost_escapes

-- the form that the program looks for
abbrev pub form_of : Sought → Form
form_of Lost = lost_escape
form_of Shown = shown_escape
form_of Short = short_escape
form_of Pairs = pair_of_pairs
form_of Wide = wide_character
form_of OtherHigh = other_high
form_of MovesRow = moves_row
