-- The text of `why`.
use Rattle.std.specs.Prelude.{◌≡◌, ◌==◌, ℕ, Bool, true, false, List, [], ◌∷◌, ◌++◌, length, codes, decimal}
use Rattle.std.specs.Prelude.{Option, Some, None, is_some, if◌then◌else◌}
use Rattle.std.specs.List.{flat_map}
use Rattle.ans_model.specs.declared.cell.Cell.{Cell}
use Rattle.ans_model.specs.declared.fault.Fault.{Fault}
use Rattle.ans_model.specs.declared.start.Start.{Start}
use Rattle.ans_model.specs.File.Record.{font_field, trimmed}
use Rattle.ans_model.specs.Screen.StartClass.{none_known}
use Rattle.ans_model.specs.Text.Characters.{shown_bytes}
use Rattle.ans_model.specs.Text.Hexadecimal.{hex_byte}
use Rattle.ans_model.specs.Text.FaultText.{note_line}
use Rattle.ans_model.specs.Text.NeedsText.{needed_parts}
use Rattle.ans_model.specs.Text.RecordText.{named_line}
use Rattle.ans_model.specs.Text.ReportText.{size_text}
use Rattle.ans_sauce.specs.declared.found.Found.{Found}
use Rattle.ans_sauce.specs.declared.found.Found.TheVariants as found
use Rattle.ans_sauce.specs.declared.parts.Parts.{Parts}
use Rattle.ans_sauce.specs.Parts.{content_of, notes_of, record_of, size_of}
pub use Rattle.ans_report.specs.Counted.{counted_text}
use Rattle.ans_report.specs.FaultTold.{fault_told}
pub use Rattle.ans_report.specs.Quoted.{quoted, quoted_byte}
use Rattle.ans_hints.specs.Hints.{are_torn}
use Rattle.ans_hints.specs.OtherWidths.{has_other_widths}
use Rattle.std.specs.Prelude.{◌||◌, ◌&&◌, ◌-◌, nat_le}
use Rattle.std.specs.Option.{option_map_or}
use Rattle.ans_hints.specs.declared.hints.Hints.{Hints}
use Rattle.ans_pens.specs.declared.times.Times.{Times}
use Rattle.ans_why.specs.HintRows.{wide_characters}
use Rattle.ans_why.specs.HintsText.{counted_line, hints_text, pass_hints_text, text_lines}
use Rattle.ans_why.specs.WidthsText.{widths_lines}
use Rattle.ans_why.specs.Known.{known_behind_end_mark, known_text}
use Rattle.ans_why.specs.OtherFiles.{first_known, known_file}
use Rattle.ans_why.specs.PlayersText.{is_same_class, players_lines}
use Rattle.ans_sauce.specs.Judged.{is_pass}
use Rattle.ans_sauce.specs.declared.judged.Judged.TheVariants.{NoContent, Refused, Passes}
use Rattle.ans_why.specs.Explained.{IsTrueOf, Why}
use Rattle.ans_why.specs.declared.known_bytes.Known.{Known}
use Rattle.ans_why.specs.declared.text_damage.TextDamage.{TextDamage}
use Rattle.ans_why.specs.declared.why.Enough.{Enough}
use Rattle.ans_why.specs.declared.why.Pass.{Pass}
use Rattle.ans_why.specs.declared.why.Place.{Place}
use Rattle.ans_why.specs.declared.why.RecordRefusal.{RecordRefusal}
use Rattle.ans_why.specs.declared.why.Refusal.{Refusal}
use Rattle.ans_why.specs.declared.why.Reliance.{Reliance}
use Rattle.ans_why.specs.declared.why.Shown.{Shown}
use Rattle.ans_why.specs.declared.why.Shown.TheVariants.{Cursors, Cells}

-- the offending bytes, after a fault; nothing if there are none
abbrev pub blamed_text : List ℕ → List ℕ
blamed_text [] = []
blamed_text (byte ∷ more) = codes ": " ++ quoted (byte ∷ more)

-- a line of this name: a fault, and its offending bytes
abbrev pub blamed_line : List ℕ → Fault → List ℕ → List ℕ
blamed_line name fault bytes = named_line name (fault_told fault ++ blamed_text bytes)

-- the verdict of a refusal, its fault, and the offending bytes
abbrev pub fault_lines : Fault → List ℕ → List ℕ
fault_lines fault bytes =
    named_line (codes "verdict") (codes "refused") ++ blamed_line (codes "fault") fault bytes

-- a row and a column
abbrev pub place_text : Place → List ℕ
place_text p = codes "row " ++ (decimal p.row ++ (codes ", column " ++ decimal p.column))

-- a cell's byte and attribute
abbrev pub cell_text : Cell → List ℕ
cell_text c = codes "byte " ++ (hex_byte c.byte ++ (codes ", attribute " ++ hex_byte c.attribute))

-- The lines of what the two plays show. They are those from the low and the high one of all starts, which begin with
-- the cursor at the top left, and at the bottom right in the row below the last line.
abbrev pub shown_lines : Shown → List ℕ
shown_lines (Cursors low high) =
    named_line (codes "from the top left") (place_text low)
    ++ named_line (codes "from the bottom right") (place_text high)
shown_lines (Cells low high) =
    named_line (codes "from the top left") (cell_text low)
    ++ named_line (codes "from the bottom right") (cell_text high)

-- the lines of what a content relies on
abbrev pub reliance_lines : Option Reliance → List ℕ
reliance_lines None = []
reliance_lines (Some r) = blamed_line (codes "because") r.fault r.bytes.now ++ shown_lines r.shown

-- what the bytes are known as
abbrev pub known_line : Option Known → List ℕ
known_line None = []
known_line (Some known) = named_line (codes "is") (known_text known)

-- what comes after the number of lines if the rows look broken
abbrev pub torn_text : Bool → List ℕ
torn_text true = codes ", but the rows look broken"
torn_text false = []

-- the number of lines that is enough
abbrev pub lines_line : Option ℕ → Bool → List ℕ
lines_line None torn = []
lines_line (Some n) torn = named_line (codes "lines") (decimal n ++ torn_text torn)

-- what follows the end mark
abbrev pub after_end_mark_text : Bool → List ℕ
after_end_mark_text true = codes " after the end mark, with an older record"
after_end_mark_text false = codes " after the end mark, without a record"

-- returns in a record
abbrev pub returns_text : ℕ → List ℕ
returns_text returns =
    if returns == 1 then codes " of them a return that a transfer as text may have put in"
    else codes " of them returns that a transfer as text may have put in"

-- the line of what is found if a record or a layout is refused
abbrev pub found_line : Found → List ℕ
found_line found.NoRecord = []
found_line (found.Record offset after) =
    named_line (codes "found")
    (codes "a record at "
    ++ (decimal offset ++ (codes ", and " ++ (counted_text after (codes "byte") ++ codes " after it"))))
found_line (found.Remains offset bytes) =
    named_line (codes "found")
    (codes "what is left of a record, at "
    ++ (decimal offset ++ (codes ", " ++ counted_text bytes (codes "byte"))))
found_line (found.Grown offset bytes returns) =
    named_line (codes "found")
    ((codes "a record at " ++ (decimal offset ++ (codes ", " ++ decimal bytes)))
    ++ (codes " bytes, " ++ (decimal returns ++ returns_text returns)))
found_line (found.Version bytes) = named_line (codes "found") (codes "version " ++ shown_bytes bytes.now)
found_line (found.Kind kind subkind) =
    named_line (codes "found")
    (codes "data type " ++ (decimal kind ++ (codes ", file type " ++ decimal subkind)))
found_line (found.Comments count) = named_line (codes "found") (counted_text count (codes "comment") ++ codes " stated")
found_line (found.Lines lines) = named_line (codes "found") (counted_text lines (codes "line") ++ codes " stated")
found_line (found.Width width) = named_line (codes "found") (counted_text width (codes "column") ++ codes " stated")
found_line (found.AfterEndMark bytes holds_record) =
    named_line (codes "found") (counted_text (length bytes.now) (codes "byte") ++ after_end_mark_text holds_record)

-- what it is known as
abbrev pub known_found : Found → Option Known
known_found (found.AfterEndMark bytes holds_record) = known_behind_end_mark holds_record bytes.now
known_found _ = None

-- Beside what seems to have happened to a text nothing is said of letters of UTF-8, if it is to be converted otherwise.
abbrev pub hints_beside : TextDamage → Hints → Hints
hints_beside damage hints = if is_some damage.converted then record hints { two_byte_letters = None } else hints

-- the hints and the number of lines of a file that states none
abbrev pub enough_lines : TextDamage → Option Enough → List ℕ
enough_lines damage None = []
enough_lines damage (Some e) =
    hints_text (hints_beside damage e.hints) e.font.now ++ lines_line (Some e.lines) (are_torn e.hints)

-- What is printed takes exactly the stated lines; only the cursor goes below them.
abbrev pub comes_out : ℕ → Refusal → Bool
comes_out stated r = option_map_or (λ n. nat_le stated n && n - stated == r.hints.empty_rows) r.lines false

-- nothing on rows over the edge
abbrev pub without_over : Hints → Hints
without_over hints = record hints {
  row_ends = record hints.row_ends { over = record hints.row_ends.over { times = None } };
}

-- Empty rows at the end are not spoken of if not all is played, and rows over the edge are not if what is printed takes
-- just the stated lines.
abbrev pub told_hints : ℕ → Refusal → Hints
told_hints stated r =
    if comes_out stated r then without_over r.hints
    else if is_some r.lines then r.hints
    else record r.hints { empty_rows = 0 }

-- the rows look broken, or like those of a drawing for another width
abbrev pub looks_torn : ℕ → Refusal → Bool
looks_torn stated r = are_torn (told_hints stated r) || has_other_widths r.widths

-- characters of UTF-8 in three bytes, unless the hints report them
abbrev pub wide_told : RecordRefusal → Option Times
wide_told said = if is_some said.enough then None else said.damage.wide_characters

-- what seems to have happened to the file on its way as a text
abbrev pub file_lines : RecordRefusal → List ℕ
file_lines said = text_lines said.damage ++ counted_line wide_characters (wide_told said)

-- the size
abbrev pub size_line : Parts → List ℕ
size_line parts = named_line (codes "size") (size_text (size_of parts))

-- the font's name
abbrev pub font_of : Parts → List ℕ
font_of parts = trimmed (font_field (record_of parts))

-- the verdict on a content that passes from the cleared start, by the parts that it needs to be known
abbrev pub verdict_words : Start → List ℕ
verdict_words needs =
    if is_same_class needs none_known then codes "pass" else codes "pass on a cleared screen"

-- on taller screens nothing changes; it is not said if something may
abbrev pub taller_line : Bool → List ℕ
taller_line true = named_line (codes "taller screens") (codes "same")
taller_line false = []

abbrev pub pass_lines : Parts → Pass → List ℕ
pass_lines parts pass =
    named_line (codes "verdict") (verdict_words pass.needs)
    ++ (known_line (known_file (content_of parts))
    ++ (named_line (codes "needs") (needed_parts pass.needs)
    ++ (reliance_lines pass.reliance
    ++ (players_lines pass.needs pass.players
    ++ (taller_line pass.taller
    ++ (text_lines pass.damage
    ++ (pass_hints_text (hints_beside pass.damage pass.hints) (font_of parts)
    ++ widths_lines (size_of parts) pass.widths)))))))

abbrev pub refusal_lines : Parts → Refusal → List ℕ
refusal_lines parts r =
    fault_lines r.fault r.bytes.now
    ++ (known_line (first_known r.known (known_file (content_of parts)))
    ++ (named_line (codes "cursor") (place_text r.cursor)
    ++ (text_lines r.damage
    ++ (hints_text (hints_beside r.damage (told_hints (size_of parts).lines r)) (font_of parts)
    ++ (widths_lines (size_of parts) r.widths ++ lines_line r.lines (looks_torn (size_of parts).lines r))))))

-- the size, and what is odd about the record
abbrev pub heading_lines : Parts → List ℕ
heading_lines parts = size_line parts ++ flat_map note_line (notes_of parts)

-- the text
abbrev pub why_text : Why → List ℕ
why_text (NoContent said) =
    fault_lines said.fault []
    ++ (found_line said.found
    ++ (known_line (first_known said.other (known_found said.found))
    ++ (file_lines said ++ enough_lines said.damage said.enough)))
why_text (Refused parts refusal) = heading_lines parts ++ refusal_lines parts refusal
why_text (Passes parts pass) = heading_lines parts ++ pass_lines parts pass

-- What is said is true of the file, and the text says it. The file passes if it passes from the cleared start.
pub record ReportsWhy (file : List ℕ) (passed : Bool) (text : List ℕ) : Type 0 where
  pub said : Why
  pub is_true : IsTrueOf file said
  pub passed_is : passed ≡ is_pass said
  pub text_is : text ≡ why_text said
