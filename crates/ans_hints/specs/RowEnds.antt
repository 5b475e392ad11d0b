-- Rows as they are written, and their line ends. A line end is a line feed, or a return and then a line feed. Colours,
-- wrap, a save, a bell and an erased line may come before it and inside it.
use Rattle.std.specs.Prelude.{ℕ, ◌+◌, ◌-◌, ◌*◌, ◌≤◌, Bool, true, false, ◌&&◌, ◌==◌, nat_le, nat_lt, max, List, []}
use Rattle.std.specs.Prelude.{◌∷◌, length, Option, None, Some, if◌then◌else◌}
use Rattle.ans_model.specs.Sequence.TokenKind.{TokenKind, Glyph, Bell, LineFeed, CarriageReturn, Tab, Up, Down, Place}
use Rattle.ans_model.specs.Sequence.TokenKind.{Clear, EraseLine, Save, Restore, Colours, Wrap}
use Rattle.ans_model.specs.Screen.State.{Size, State}
use Rattle.ans_model.specs.Screen.StartClass.{cleared}
use Rattle.ans_model.specs.Screen.Step.{step}
use Rattle.ans_pens.specs.Counted.{count_of, counted}
use Rattle.ans_hints.specs.declared.row.EndedRow.{EndedRow}
use Rattle.ans_hints.specs.declared.row.Row.{Row}
use Rattle.ans_hints.specs.declared.row.Seam.{Seam}
use Rattle.ans_hints.specs.declared.row.Seam.TheVariants.{Other, Wrapped, Stuck, Returned}
use Rattle.ans_hints.specs.declared.row_ends.RowEnds.{RowEnds}
use Rattle.ans_hints.specs.declared.row_ends.RowsOver.{RowsOver}
use Rattle.ans_hints.specs.declared.row_ends.WiderRows.{WiderRows}
use Rattle.ans_pens.specs.declared.times.Times.{Times}

-- ---- the row that is being written

-- before the first token
abbrev pub first_row : Row
first_row = record { begun = 0; wraps = 0; seam = Other }

-- a glyph that is printed next wraps
abbrev pub wraps : Size → State → Bool
wraps z s = s.cursor.column + 1 == z.width && s.wrap

-- the seam after a glyph that is printed in this state
abbrev pub seam_behind : Size → State → Seam
seam_behind z s =
    if s.cursor.column + 1 == z.width then (if s.wrap then Wrapped else Stuck) else Other

abbrev pub is_wrapped : Seam → Bool
is_wrapped Wrapped = true
is_wrapped _ = false

abbrev pub is_stuck : Seam → Bool
is_stuck Stuck = true
is_stuck _ = false

-- The row as one that ends at this offset: from where it began it has taken the columns up to the cursor, and a whole
-- row of the screen for each wrap.
abbrev pub row_up_to : Size → State → ℕ → Row → EndedRow
row_up_to z s offset row = record {
  offset = offset;
  columns = row.wraps * z.width + s.cursor.column - row.begun;
  is_full = is_wrapped row.seam;
}

-- the row that a return has ended, or else this one
abbrev pub returned_or : Seam → EndedRow → EndedRow
returned_or (Returned row) other = row
returned_or _ other = other

-- the row that a line feed ends
abbrev pub ended_by_line_feed : Size → State → ℕ → Row → EndedRow
ended_by_line_feed z s offset row = returned_or row.seam (row_up_to z s offset row)

-- a row that begins where the token takes the cursor
abbrev pub row_from : Size → State → TokenKind → Seam → Row
row_from z s t seam = record { begun = (step z s t).cursor.column; wraps = 0; seam = seam }

-- the row with one token more, which is at this offset in this state
abbrev pub row_with : Size → State → ℕ → Row → TokenKind → Row
row_with z s offset row (Glyph byte) = record {
  begun = row.begun;
  wraps = row.wraps + (if wraps z s then 1 else 0);
  seam = seam_behind z s;
}
row_with z s offset row CarriageReturn = row_from z s CarriageReturn (Returned (row_up_to z s offset row))
row_with z s offset row LineFeed = row_from z s LineFeed Other
row_with z s offset row (Up n) = row_from z s (Up n) Other
row_with z s offset row (Down n) = row_from z s (Down n) Other
row_with z s offset row (Place r c) = row_from z s (Place r c) Other
row_with z s offset row Clear = row_from z s Clear Other
row_with z s offset row Restore = row_from z s Restore Other
row_with z s offset row Bell = row
row_with z s offset row Save = row
row_with z s offset row EraseLine = row
row_with z s offset row (Colours parameters) = row
row_with z s offset row (Wrap on) = row
row_with z s offset row _ = record row { seam = Other }

-- ---- the line ends

-- before the first token
abbrev pub no_row_ends : ℕ → RowEnds
no_row_ends width = record {
  width = width;
  full = 0;
  ended = None;
  full_before = 0;
  ended_before = None;
  led_to = 0;
  line_ends = 0;
  over = record { times = None; widest = 0 };
  overprints = None;
  returns = false;
}

-- the rows that take more columns than the screen has, with one more that has ended
abbrev pub over_with : ℕ → RowsOver → EndedRow → RowsOver
over_with width over row =
    if nat_le row.columns width then over
    else record { times = counted over.times true row.offset; widest = max over.widest row.columns }

-- Something is printed in this row. A full row and its line end count only if it is in the row to which the line end
-- led, or below.
abbrev pub printed_in : ℕ → RowEnds → RowEnds
printed_in row ends =
    let ended : Option Times = if nat_le ends.led_to row then ends.ended else ends.ended_before in
    record ends { full_before = ends.full; ended = ended; ended_before = ended }

-- a glyph is printed in this row at this offset; it wraps or not, and is printed over the one before it or not
abbrev pub with_glyph : RowEnds → ℕ → ℕ → Bool → Bool → RowEnds
with_glyph ends row offset wraps is_over = record (printed_in row ends) {
  full = ends.full + (if wraps then 1 else 0);
  overprints = counted ends.overprints is_over offset;
}

-- a row ends with a line end, which leads to this row of the screen
abbrev pub with_end : RowEnds → ℕ → EndedRow → RowEnds
with_end ends below row = record ends {
  line_ends = ends.line_ends + 1;
  ended = counted ends.ended row.is_full row.offset;
  led_to = if row.is_full then below else ends.led_to;
  over = over_with ends.width ends.over row;
}

-- with one token more, which is at this offset in this state and in this row
abbrev pub row_ends_with : Size → State → ℕ → Row → RowEnds → TokenKind → RowEnds
row_ends_with z s offset row ends (Glyph byte) =
    with_glyph ends s.cursor.row offset (wraps z s) (is_stuck row.seam)
row_ends_with z s offset row ends Tab = printed_in s.cursor.row ends
row_ends_with z s offset row ends LineFeed =
    with_end ends (step z s LineFeed).cursor.row (ended_by_line_feed z s offset row)
row_ends_with z s offset row ends CarriageReturn = record ends { returns = true }
row_ends_with z s offset row ends _ = ends

-- ---- a play

-- the row that is being written, and the line ends before it
pub record Written : Type 0 where
  pub row : Row
  pub ends : RowEnds

-- with one token more
abbrev pub written_with : Size → State → ℕ → Written → TokenKind → Written
written_with z s offset w t =
    record { row = row_with z s offset w.row t; ends = row_ends_with z s offset w.row w.ends t }

-- after tokens with these texts, which are played from this state; the first is at this offset
abbrev pub written_after : Size → State → ℕ → Written → List TokenKind → List (List ℕ) → Written
written_after z s offset w [] texts = w
written_after z s offset w (t ∷ tokens) [] = w
written_after z s offset w (t ∷ tokens) (text ∷ texts) =
    written_after z (step z s t) (offset + length text) (written_with z s offset w t) tokens texts

-- before the first token
abbrev pub nothing_written : Size → Written
nothing_written z = record { row = first_row; ends = no_row_ends z.width }

-- ---- what they tell

-- every full row that something is printed after has a line end after it that counts, and there are at least two of
-- these
abbrev pub are_all_ended : RowEnds → Bool
are_all_ended ends = nat_le 2 (count_of ends.ended_before) && count_of ends.ended_before == ends.full_before

-- Four rows run over the edge and then end, none of them twice over it, and they are more than half of all that end.
-- How wide each is does not matter: the blanks at the end of a row may be trimmed.
abbrev pub are_wider : RowEnds → ℕ → Bool
are_wider ends count =
    nat_le 4 count && nat_le ends.over.widest (2 * ends.width) && nat_lt ends.line_ends (2 * count)

-- the rows of a drawing that was made for more columns
abbrev pub wider_of : RowEnds → Option Times → Option WiderRows
wider_of ends None = None
wider_of ends (Some times) =
    if are_wider ends times.count then Some (record { times = times; columns = ends.over.widest }) else None

abbrev pub wider_rows : RowEnds → Option WiderRows
wider_rows ends = wider_of ends ends.over.times

-- no more was counted than there are bytes so far
pub record CountsRows (ends : RowEnds) (offset : ℕ) : Type 0 where
  pub full : ends.full ≤ offset
  pub line_ends : ends.line_ends ≤ offset
  pub ended : count_of ends.ended ≤ offset
  pub ended_before : count_of ends.ended_before ≤ offset
  pub over : count_of ends.over.times ≤ offset
  pub overprints : count_of ends.overprints ≤ offset

-- what is written by these tokens with these texts, in the play from the cleared start
abbrev pub written_by : Size → List TokenKind → List (List ℕ) → Written
written_by z tokens texts = written_after z (cleared z) 0 (nothing_written z) tokens texts
