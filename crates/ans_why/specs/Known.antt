-- What the offending bytes are known as, by their form.
use Rattle.std.specs.Prelude.{ℕ, ◌-◌, ◌/◌, ◌%◌, Bool, true, false, not, ◌&&◌, ◌||◌, ◌==◌, nat_eq, nat_le, nat_lt}
use Rattle.std.specs.Prelude.{List, [], ◌∷◌, length, drop, codes, count_by, Option, None, Some, if◌then◌else◌}
use Rattle.std.specs.List.{list_any, starts_with}
use Rattle.ans_model.specs.declared.fault.Cause.{Cause}
use Rattle.ans_model.specs.declared.fault.Cause.TheVariants.{KeyReassigned}
use Rattle.ans_model.specs.File.Layout.{content, is_clean_end, is_end_mark}
use Rattle.ans_forms.specs.Pieces.{begins_with_form, count_front}
use Rattle.ans_forms.specs.declared.pieces.TheConstants.{MUSIC, FONT_SELECTION, TRUE_COLOUR, BRIGHT_BACKGROUNDS}
use Rattle.ans_forms.specs.declared.pieces.TheConstants.{CURSOR_SWITCH, DOS_MODE}
use Rattle.ans_why.specs.declared.known_bytes.Known.{Known}
use Rattle.ans_why.specs.declared.known_bytes.Known.TheVariants.{Music, FontSelection, TrueColour, BrightBackgrounds}
use Rattle.ans_why.specs.declared.known_bytes.Known.TheVariants.{CursorSwitch, DosMode, ReassignedKey}
use Rattle.ans_why.specs.declared.known_bytes.Known.TheVariants.{UncountedComments, OlderRecord, AnotherDrawing}
use Rattle.ans_why.specs.declared.known_bytes.Known.TheVariants.{Arrow, XBin, Zip, Avatar, BinaryText, PcBoard, Pipe}
use Rattle.ans_why.specs.declared.known_bytes.Known.TheVariants.{Wildcat}
use Rattle.ans_why.specs.declared.known_bytes.Known.TheVariants as known
use Rattle.ans_why.specs.declared.terminal_letters.Terminal.{Terminal}
use Rattle.ans_why.specs.TerminalLetters.{terminal_form, terminal_text}

-- a sequence of modern terminals
abbrev pub known_terminal : Option Terminal → Option Known
known_terminal (Some what) = Some (known.Terminal what)
known_terminal None = None

-- the first form with which the bytes begin
abbrev pub known_form : List ℕ → Option Known
known_form bytes =
    if begins_with_form MUSIC bytes then Some Music
    else if begins_with_form FONT_SELECTION bytes then Some FontSelection
    else if begins_with_form TRUE_COLOUR bytes then Some TrueColour
    else if begins_with_form BRIGHT_BACKGROUNDS bytes then Some BrightBackgrounds
    else if begins_with_form CURSOR_SWITCH bytes then Some CursorSwitch
    else if begins_with_form DOS_MODE bytes then Some DosMode
    else known_terminal (terminal_form bytes)

-- a content's bytes, from the offset at which it is refused
abbrev pub known_sequence : Cause → List ℕ → Option Known
known_sequence KeyReassigned bytes = Some ReassignedKey
known_sequence _ bytes = known_form bytes

abbrev pub behind_end_marks : List ℕ → List ℕ
behind_end_marks bytes = drop (count_front is_end_mark bytes) bytes

-- SAUCE 00.5, comment block
abbrev pub is_comment_block : List ℕ → Bool
is_comment_block bytes =
    starts_with nat_eq bytes (codes "COMNT") && nat_lt 5 (length bytes) && (length bytes - 5) % 64 == 0

-- They begin neither like comments nor like a record, and print something.
abbrev pub may_be_drawing : List ℕ → Bool
may_be_drawing bytes =
    not (starts_with nat_eq bytes (codes "COMNT")) && not (starts_with nat_eq bytes (codes "SAUCE"))
    && list_any (λ b. nat_lt 0x20 b) bytes

-- a byte below a blank, except for a return, a line feed and ESC
abbrev pub is_control : ℕ → Bool
is_control b = nat_lt b 0x20 && not (b == 0x0D || b == 0x0A || b == 0x1B)

-- at most 2 in 100 of the bytes are such
abbrev pub has_few_controls : List ℕ → Bool
has_few_controls bytes = nat_le (count_by is_control bytes) (length bytes / 50)

-- The end mark before the bytes is an arrow: more of the drawing follows, up to its end marks, and nothing after these.
abbrev pub is_arrow : List ℕ → Bool
is_arrow bytes = is_clean_end bytes && may_be_drawing (content bytes) && has_few_controls (content bytes)

-- what comes after the first `SAUCE00` and 121 more bytes; nothing if there are none
abbrev pub after_older_record : List ℕ → List ℕ
after_older_record [] = []
after_older_record (byte ∷ rest) =
    if starts_with nat_eq (byte ∷ rest) (codes "SAUCE00") then drop 128 (byte ∷ rest) else after_older_record rest

-- an older record, or another drawing that follows it
abbrev pub known_with_record : List ℕ → Known
known_with_record bytes =
    if may_be_drawing (behind_end_marks (after_older_record bytes)) then AnotherDrawing else OlderRecord

-- the bytes after the first end mark, which hold a record or not
abbrev pub known_behind_end_mark : Bool → List ℕ → Option Known
known_behind_end_mark true bytes = Some (known_with_record bytes)
known_behind_end_mark false bytes =
    if is_comment_block (behind_end_marks bytes) then Some UncountedComments
    else if is_arrow bytes then Some Arrow
    else None

-- what they are, as a text
abbrev pub known_text : Known → List ℕ
known_text Music = codes "ANSI music"
known_text FontSelection = codes "a font selection"
known_text TrueColour = codes "a 24-bit colour"
known_text BrightBackgrounds = codes "the switch for bright backgrounds"
known_text CursorSwitch = codes "the switch that hides or shows the cursor"
known_text DosMode = codes "a screen mode of DOS"
known_text (known.Terminal what) = terminal_text what
known_text ReassignedKey = codes "a reassigned key"
known_text UncountedComments = codes "comments that the record does not count"
known_text OlderRecord = codes "an older record"
known_text AnotherDrawing = codes "another drawing"
known_text Arrow = codes "an arrow in the drawing"
known_text XBin = codes "an XBin file"
known_text Zip = codes "a ZIP archive"
known_text Avatar = codes "a drawing in AVATAR codes"
known_text BinaryText = codes "BinaryText, pairs of a character and a colour"
known_text PcBoard = codes "text with PCBoard colour codes (@X1F)"
known_text Pipe = codes "text with Renegade or Telegard colour codes (|07)"
known_text Wildcat = codes "text with Wildcat colour codes (@1F@)"
