-- What mending says: what was changed, or why there is none.
use Rattle.std.specs.Prelude.{ℕ, ◌+◌, ◌-◌, Bool, true, false, not, ◌&&◌, ◌||◌, ◌==◌, nat_lt, nat_le, min}
use Rattle.std.specs.Prelude.{List, [], ◌++◌, take, slice_index_or}
use Rattle.std.specs.Prelude.{codes, decimal, Option, None, Some, is_some, if◌then◌else◌}
use Rattle.std.specs.List.{flat_map}
use Rattle.ans_model.specs.Text.FaultText.{fault_line}
use Rattle.ans_model.specs.declared.fault.Cause.{Cause}
use Rattle.ans_sauce.specs.declared.writing.Reset.{Reset}
use Rattle.ans_report.specs.Changes.{end_mark_line, reset_line}
use Rattle.ans_report.specs.Counted.{counted_text}
use Rattle.ans_report.specs.Meanings.{fault_help}
use Rattle.ans_report.specs.Quoted.{quoted_byte}
use Rattle.ans_report.specs.declared.meanings.Help.{Help}
use Rattle.ans_report.specs.declared.meanings.Help.TheVariants as help
use Rattle.ans_pens.specs.declared.times.Times.{Times}
use Rattle.ans_mend.specs.IdleText.{idle_text}
use Rattle.ans_mend.specs.declared.helping.Offers.{Offers}
use Rattle.ans_mend.specs.declared.outcome.GivenRecord.{GivenRecord}
use Rattle.ans_mend.specs.declared.outcome.Mended.{Mended}
use Rattle.ans_mend.specs.declared.outcome.Unmended.{Unmended}
use Rattle.ans_mend.specs.declared.outcome.Unmended.TheVariants as unmended
use Rattle.ans_mend.specs.declared.taking_out.Excerpt.{Excerpt}
use Rattle.ans_mend.specs.declared.taking_out.TakenOut.{TakenOut}
use Rattle.ans_model.specs.declared.mends.Mends.{Mends}

-- ---- what was changed, a line each

-- the text for one, or for several
abbrev pub by_count : ℕ → List ℕ → List ℕ → List ℕ
by_count count one several = if count == 1 then one else several

-- where it was, or where the first was
abbrev pub at_text : Times → List ℕ
at_text times = by_count times.count (codes ", at ") (codes ", first at ") ++ decimal times.first

-- what was done, to how many, and where: the number is followed by the text for one or for several
abbrev pub times_line : List ℕ → List ℕ → List ℕ → Option Times → List ℕ
times_line done one several None = []
times_line done one several (Some times) =
    done ++ (decimal times.count ++ (by_count times.count one several ++ (at_text times ++ codes "\n")))

-- the text is quoted, or its first 32 bytes
abbrev pub quoted_excerpt : Excerpt → List ℕ
quoted_excerpt text =
    flat_map quoted_byte (take (min text.length 32) text.bytes)
    ++ (if nat_lt 32 text.length then codes " .." else [])

-- how many of the kind were removed besides the first
abbrev pub others_text : ℕ → List ℕ
others_text count =
    if nat_le count 1 then [] else codes ", and " ++ (decimal (count - 1) ++ codes " more like it")

abbrev pub taken_line : Option TakenOut → List ℕ
taken_line None = []
taken_line (Some taken) =
    codes "removed " ++ (quoted_excerpt taken.text ++ (codes " at " ++ (decimal taken.times.first
    ++ (others_text taken.times.count ++ codes "\n"))))

abbrev pub tail_line : Option Times → List ℕ
tail_line None = []
tail_line (Some cut) =
    codes "cut off " ++ (counted_text cut.count (codes "byte") ++ (codes " after the record, at " ++ (decimal cut.first
    ++ codes "\n")))

-- how many bytes a record replaced
abbrev pub replaced_text : ℕ → List ℕ
replaced_text count =
    if count == 0 then [] else codes ", in place of " ++ counted_text count (codes "byte")

abbrev pub record_line : Option GivenRecord → List ℕ
record_line None = []
record_line (Some given) =
    codes "added an end mark and a record for "
    ++ (counted_text given.width (codes "column")
    ++ (codes ", at " ++ (decimal given.place ++ (replaced_text given.cut ++ codes "\n"))))

-- another width, if one was asked for
abbrev pub width_line : Option Reset → List ℕ
width_line None = []
width_line (Some width) = reset_line (codes "columns ") width

-- another number of comments, if the record was to be repaired
abbrev pub comments_line : Option Reset → List ℕ
comments_line None = []
comments_line (Some comments) = reset_line (codes "comments ") comments

-- an older record that was removed
abbrev pub older_line : Option Times → List ℕ
older_line None = []
older_line (Some older) =
    codes "removed an older record, "
    ++ (counted_text older.count (codes "byte") ++ (codes " in all, at " ++ (decimal older.first ++ codes "\n")))

-- the flag is set, cleared, or stays, which is said if a switch for bright backgrounds was removed
abbrev pub flag_line : Bool → Bool → Bool → List ℕ
flag_line switched false true = codes "set the non-blink flag\n"
flag_line switched true false = codes "cleared the non-blink flag\n"
flag_line switched true true = if switched then codes "left the non-blink flag set\n" else []
flag_line switched false false = if switched then codes "left the non-blink flag cleared\n" else []

-- a switch for bright backgrounds was removed
abbrev pub has_switch : Mended → Bool
has_switch m = is_some (slice_index_or m.edits.told.kinds 0 None)

abbrev pub front_line : Bool → List ℕ
front_line true = codes "added the safe beginning, 25 bytes\n"
front_line false = []

-- all lines, in the order in which the file is mended
abbrev pub mended_text : Mended → List ℕ
mended_text m =
    tail_line m.tail
    ++ (record_line m.given_record ++ (width_line m.width ++ (comments_line m.comments ++ (older_line m.older
    ++ (times_line (codes "added ") (codes " carriage return before a line feed")
    (codes " carriage returns before line feeds") m.edits.returns
    ++ (flat_map taken_line m.edits.told.kinds
    ++ (flag_line (has_switch m) m.non_blink.was m.non_blink.is
    ++ (times_line (codes "removed ") (codes " line end after a full row") (codes " line ends after full rows")
    m.edits.row_ends
    ++ (times_line (codes "removed ") (codes " line end, byte 00h or sequence at the end")
    (codes " line ends, bytes 00h or sequences at the end") m.edits.last_ends
    ++ (times_line (codes "named the colours of ") (codes " sequence") (codes " sequences") m.edits.named_colours
    ++ (reset_line (codes "lines ") m.lines
    ++ (end_mark_line m.end_mark
    ++ (front_line m.front ++ (reset_line (codes "file size ") m.file_size ++ idle_text m))))))))))))))

-- ---- why there is none

-- if no flag is left that may help
abbrev pub look_text : List ℕ
look_text = codes "see anscheck why for the place, and anscheck help for the fault\n"

-- a drawing without a record needs one
abbrev pub record_help : List ℕ
record_help = codes "try: --add-record N, which adds a record for N columns\n"

-- why it gets none
abbrev pub no_record_help : List ℕ
no_record_help =
    codes "no record is added if SAUCE00 appears in the file or more follows 1Ah: see anscheck help F1\n"

-- a flag is neither asked for nor known not to help
abbrev pub is_left : Bool → Bool → Bool
is_left asked without_help = not (asked || without_help)

-- What may help: what is left of the flags that change rows, sequences and lines; with one that is asked for, that it
-- changes mixed rows too; and a larger number of lines than the one that is asked for.
abbrev pub offers_of : Mends → Mends → Offers
offers_of asked without_help = record {
  crlf = is_left asked.crlf without_help.crlf;
  join_rows = is_left asked.join_rows without_help.join_rows;
  mixed = (asked.crlf || asked.join_rows) && is_left asked.mixed without_help.mixed;
  take_out = is_left asked.take_out without_help.take_out;
  larger = is_some asked.lines;
  least_lines = not (is_some asked.lines) && is_left asked.least_lines without_help.least_lines;
}

abbrev pub one_if : Bool → ℕ
one_if offered = if offered then 1 else 0

-- how many of them change the rows or the number of lines
abbrev pub rows_offers : Offers → ℕ
rows_offers offers =
    one_if offers.crlf + (one_if offers.join_rows + (one_if offers.mixed + (one_if offers.take_out
    + (one_if offers.larger + one_if offers.least_lines))))

abbrev pub sequence_help : Offers → List ℕ
sequence_help offers =
    if offers.take_out then codes "try: --take-out, which removes such sequences if it knows them\n" else look_text

abbrev pub unstated_help : Offers → List ℕ
unstated_help offers =
    if offers.least_lines then codes "try: --least-lines, which sets the smallest number of lines that works\n"
    else look_text

-- a flag, if it is offered
abbrev pub offered : Bool → List ℕ → List ℕ
offered is_offered flag = if is_offered then codes " " ++ flag else []

-- more lines: another number than the one that is given, or the least
abbrev pub lines_offered : Offers → List ℕ
lines_offered offers =
    offered offers.larger (codes "--lines N with a larger N") ++ offered offers.least_lines (codes "--least-lines")

-- what comes before the flags that may help
abbrev pub try_text : List ℕ
try_text = codes "try:"

-- what comes after them if there are several
abbrev pub which_text : List ℕ
which_text = codes " (anscheck why says which)\n"

-- what comes after that many of them
abbrev pub after_offers : ℕ → List ℕ
after_offers count = if count == 1 then codes "\n" else which_text

-- the flags that change the rows
abbrev pub rows_help : Offers → List ℕ
rows_help offers =
    if rows_offers offers == 0 then look_text
    else try_text ++ (offered offers.crlf (codes "--crlf")
    ++ (offered offers.join_rows (codes "--join-rows")
    ++ (offered offers.mixed (codes "--mixed")
    ++ (offered offers.take_out (codes "--take-out")
    ++ (lines_offered offers ++ after_offers (rows_offers offers))))))

abbrev pub has_lines : Offers → Bool
has_lines offers = offers.larger || offers.least_lines

-- a place outside the screen may be on a screen of more lines
abbrev pub place_help : Offers → List ℕ
place_help offers =
    if has_lines offers then try_text ++ (lines_offered offers ++ codes "\n") else look_text

-- what may help
abbrev pub helped : Offers → Help → List ℕ
helped offers help.Look = look_text
helped offers help.Record = record_help
helped offers help.LeastLines = unstated_help offers
helped offers help.TakeOut = sequence_help offers
helped offers help.Place = place_help offers
helped offers help.Rows = rows_help offers

-- what may help against a fault
abbrev pub help_text : Offers → Cause → List ℕ
help_text offers cause = helped offers (fault_help cause)

-- another width: of the record that is added, or of the one that is there
abbrev pub width_offered : Mends → List ℕ
width_offered asked =
    if is_some asked.columns then codes " --columns N with another N"
    else if is_some asked.add_record then codes " --add-record N with another N"
    else codes " --columns N"

-- what may help if the rows look broken: whole rows, a number that is given all the same, or another width
abbrev pub torn_help : Mends → Offers → List ℕ
torn_help asked offers =
    try_text ++ (offered offers.crlf (codes "--crlf")
    ++ (offered offers.join_rows (codes "--join-rows")
    ++ (offered offers.mixed (codes "--mixed")
    ++ (codes " --lines N" ++ (width_offered asked ++ which_text)))))

-- what may help if no number of lines would do: the least is asked for then, as such or with a record
abbrev pub no_lines_help : Offers → List ℕ
no_lines_help offers = rows_help (record offers { least_lines = false })

-- Why a file is not mended by what was asked for, and what may help. `without_help` has what is known not to help.
abbrev pub unmended_text : Mends → Mends → Unmended → List ℕ
unmended_text asked without_help (unmended.Refused fault) =
    fault_line fault ++ help_text (offers_of asked without_help) fault.cause
unmended_text asked without_help (unmended.TakesNoRecord fault) = fault_line fault ++ no_record_help
unmended_text asked without_help unmended.Torn =
    codes "the rows look broken\n" ++ torn_help asked (offers_of asked without_help)
unmended_text asked without_help unmended.NoLines =
    codes "no number of lines up to 8192 would do\n" ++ no_lines_help (offers_of asked without_help)
unmended_text asked without_help unmended.TooLong =
    codes "the file would be longer than 16777216 bytes\nonly a shorter drawing can be fixed this way\n"
