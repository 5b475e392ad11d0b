-- Which flags of mending a drawing's own findings call for, and whether a mended file comes of them.
use Rattle.std.specs.Prelude.{◌≡◌, ℕ, nat_le, Bool, true, false, not, ◌&&◌, ◌||◌, List, [], ◌∷◌, Option, None, Some}
use Rattle.std.specs.Prelude.{is_some, MatchBool, MatchOption, Result, Ok, Err, if◌then◌else◌}
use Rattle.std.specs.List.{list_any}
use Rattle.ans_model.specs.Bytes.{most_columns}
use Rattle.ans_model.specs.Screen.State.{Size}
use Rattle.ans_model.specs.Text.FaultText.{cause_number}
use Rattle.ans_model.specs.declared.mends.Mends.{Mends}
use Rattle.ans_sauce.specs.Parts.{content_of, size_of}
use Rattle.ans_sauce.specs.declared.found.Found.{Found}
use Rattle.ans_sauce.specs.declared.found.Found.TheVariants as found
use Rattle.ans_sauce.specs.declared.judged.Judged.TheVariants.{NoContent, Refused, Passes}
use Rattle.ans_sauce.specs.declared.parts.Parts.{Parts}
use Rattle.ans_hints.specs.Hints.{are_torn}
use Rattle.ans_hints.specs.RowEnds.{are_all_ended, wider_rows}
use Rattle.ans_hints.specs.declared.hints.Hints.{Hints}
use Rattle.ans_hints.specs.declared.other_widths.OtherWidths.{OtherWidths}
use Rattle.ans_hints.specs.declared.row_ends.WiderRows.{WiderRows}
use Rattle.ans_mend.specs.declared.outcome.Mended.{Mended}
use Rattle.ans_mend.specs.declared.outcome.Unmended.{Unmended}
use Rattle.ans_why.specs.Explained.{Why}
use Rattle.ans_why.specs.OtherFiles.{known_file}
use Rattle.ans_why.specs.WhyText.{told_hints}
use Rattle.ans_why.specs.declared.text_damage.TextDamage.{TextDamage}
use Rattle.ans_why.specs.declared.why.Enough.{Enough}
use Rattle.ans_why.specs.declared.why.RecordRefusal.{RecordRefusal}
use Rattle.ans_why.specs.declared.why.Refusal.{Refusal}
use Rattle.ans_fix.specs.Trials.{ComesTo}

-- nothing but what is mended by itself
abbrev pub no_mends : Mends
no_mends = record {
  add_record = None;
  columns = None;
  crlf = false;
  take_out = false;
  join_rows = false;
  mixed = false;
  name_colours = false;
  ice = false;
  repair_record = false;
  least_lines = false;
  lines = None;
}

-- Something happened to it on its way as a text that is mended by hand. Letters of Latin-1 are none of this.
abbrev pub is_damaged : TextDamage → Bool
is_damaged damage =
    damage.mark || is_some damage.lost_escapes || is_some damage.shown_escapes || is_some damage.short_escapes
    || is_some damage.converted || is_some damage.wide_characters || is_some damage.returns

-- ---- by the rows of a drawing

-- the number, if a record may state that many columns
abbrev pub allowed : ℕ → Option ℕ
allowed count = if nat_le count most_columns then Some count else None

-- a width, unless there is one more
abbrev pub unless_any : Option ℕ → List (Option ℕ) → Option ℕ
unless_any width more = if list_any is_some more then None else width

-- the one width that is there
abbrev pub only_width : List (Option ℕ) → Option ℕ
only_width [] = None
only_width (width ∷ more) = if is_some width then unless_any width more else only_width more

-- that of the widest row, if rows run over the edge; else the one width with which the stated lines come out
abbrev pub wider_width : Option WiderRows → List (Option ℕ) → Option ℕ
wider_width None fitting = only_width fitting
wider_width (Some rows) fitting = allowed rows.columns

-- the width that the record should state: that of its lines, if columns and lines are exchanged
abbrev pub wanted_width : Size → Hints → OtherWidths → Option ℕ
wanted_width z hints widths =
    if widths.exchanged then allowed z.lines else wider_width (wider_rows hints.row_ends) widths.fitting

-- full rows have a line end, or will: the widest row of a drawing for more columns is full on its own width
abbrev pub are_ended : Hints → Bool
are_ended hints = is_some hints.row_ends.ended || is_some (wider_rows hints.row_ends)

-- only some line feeds have no return, or only some full rows have a line end
abbrev pub are_mixed : Hints → Bool
are_mixed hints =
    (is_some hints.loose_line_feeds && hints.row_ends.returns)
    || (are_ended hints && not (are_all_ended hints.row_ends))

-- something is wrong with the rows, or with the width
abbrev pub are_odd : Hints → Option ℕ → Bool
are_odd hints width =
    are_torn hints || is_some hints.loose_line_feeds || are_ended hints || is_some width

-- What a drawing's rows call for, with this width in its record; and if nothing is wrong with them, more lines, or
-- fewer line ends at the very end.
abbrev pub mends_of_width : Option ℕ → Hints → Mends
mends_of_width width hints = record no_mends {
  columns = width;
  crlf = is_some hints.loose_line_feeds;
  take_out = not (are_odd hints width);
  join_rows = are_ended hints;
  mixed = are_mixed hints;
  least_lines = not (are_odd hints width);
}

-- the lines that the record should state, if columns and lines are exchanged
abbrev pub exchanged_lines : Size → OtherWidths → Option ℕ
exchanged_lines z widths = if widths.exchanged then Some z.width else None

-- the same by the size that is stated, and what that shows of other widths
abbrev pub mends_of_rows : Size → Hints → OtherWidths → Mends
mends_of_rows z hints widths =
    record (mends_of_width (wanted_width z hints widths) hints) { lines = exchanged_lines z widths }

-- ---- by the fault

-- F9 to F18: a sequence is refused
abbrev pub is_of_sequence : ℕ → Bool
is_of_sequence number = nat_le 9 number && nat_le number 18

-- F19 to F21: the screen has too few lines
abbrev pub is_of_lines : ℕ → Bool
is_of_lines number = nat_le 19 number && nat_le number 21

-- a refused content of this size calls for this, by the number of its fault
abbrev pub mends_of_content : Size → Refusal → ℕ → Option Mends
mends_of_content z refusal number =
    if is_of_sequence number then Some (record no_mends { take_out = true })
    else if is_of_lines number then Some (mends_of_rows z (told_hints z.lines refusal) refusal.widths)
    else None

-- A file that states no lines calls for the least number of them, and for what its rows do. If they seem to be rows of
-- another width, it calls for nothing: there are no stated lines to show which.
abbrev pub mends_of_enough : Option Enough → Option Mends
mends_of_enough None = None
mends_of_enough (Some enough) =
    if is_some (wider_rows enough.hints.row_ends) then None
    else Some (record (mends_of_width None enough.hints) { least_lines = true; take_out = false })

-- What a record or a layout that is refused calls for, by what is found there: a record; that bytes after it are cut
-- off, which is done by itself; that it is repaired; or lines.
abbrev pub mends_of_found : Found → Option Enough → Option Mends
mends_of_found found.NoRecord enough = Some (record no_mends { add_record = Some 80 })
mends_of_found (found.Record offset after) enough = Some no_mends
mends_of_found (found.Comments count) enough = Some (record no_mends { repair_record = true })
mends_of_found (found.AfterEndMark bytes holds_record) enough = Some (record no_mends { repair_record = true })
mends_of_found (found.Lines lines) enough = mends_of_enough enough
mends_of_found _ enough = None

-- What the findings of a drawing that is refused call for. Another kind of file, and a text that was damaged on its
-- way, are mended by hand.
abbrev pub suggested : Why → Option Mends
suggested (NoContent said) =
    if is_some said.other || is_damaged said.damage then None else mends_of_found said.found said.enough
suggested (Refused parts refusal) =
    if is_some (known_file (content_of parts)) || is_damaged refusal.damage then None
    else mends_of_content (size_of parts) refusal (cause_number refusal.fault.cause)
suggested (Passes parts pass) = None

-- ---- what comes of it

-- what is asked for, if a mended file comes of it
abbrev pub if_mended : Mends → Result Mended Unmended → Option Mends
if_mended mends (Ok mended) = Some mends
if_mended mends (Err reason) = None

-- It is asked for, and a mended file comes of it; or none does.
abbrev pub IsFixBy : Mends → List ℕ → Option Mends → Type 0
IsFixBy mends file fix =
    (answer : Result Mended Unmended) × ComesTo mends file answer × (fix ≡ if_mended mends answer)

-- Line ends are to be changed, and the width too but no number of lines, which comes with exchanged columns and lines.
-- The line ends may be all that is wrong.
abbrev pub may_keep_width : Mends → Bool
may_keep_width mends = (mends.crlf || mends.join_rows) && is_some mends.columns && not (is_some mends.lines)

abbrev pub with_its_width : Mends → Mends
with_its_width mends = record mends { columns = None }

-- then it is asked for without another width first
abbrev pub IsFixOf : Mends → List ℕ → Option Mends → Type 0
IsFixOf mends file fix = MatchBool (may_keep_width mends)
    ((kept : Option Mends) × IsFixBy (with_its_width mends) file kept
    × MatchOption kept (IsFixBy mends file fix) (λ narrow. fix ≡ Some narrow)) (IsFixBy mends file fix)

-- What is suggested, if mending the file so comes to a mended file.
abbrev pub IsFix : List ℕ → Why → Option Mends → Type 0
IsFix file why fix = MatchOption (suggested why) (fix ≡ None) (λ mends. IsFixOf mends file fix)
