-- A grid's cells: how many there may be, and edits of them.
use Rattle.std.specs.Prelude.{ℕ, ◌+◌, ◌*◌, Bool, not, List, ◌++◌, length, map, take, drop, Option}
use Rattle.std.specs.List.{position}
use Rattle.ans_model.specs.Bytes.{most_lines}
use Rattle.ans_screen.specs.KnownBits.{KnownBits}
use Rattle.ans_screen.specs.HalfCells.{printed_cell, is_known}
use Rattle.ans_screen.specs.declared.cell.HalfCell.{HalfCell}

-- the most rows of a grid: one more than the most lines
abbrev pub most_rows : ℕ
most_rows = most_lines + 1

-- the cells of a row
abbrev pub row_cells : ℕ → ℕ → List HalfCell → List HalfCell
row_cells width row cells = take width (drop (row * width) cells)

-- the elements from `from` on are `new`
abbrev pub written : {A : Type 0} → List A → ℕ → List A → List A
written xs from new = take from xs ++ (new ++ drop (from + length new) xs)

-- printed bytes, all with one attribute
abbrev pub printed_run : KnownBits → List ℕ → List HalfCell
printed_run attr bytes = map (printed_cell attr) bytes

-- the byte or a bit of the attribute is not known
abbrev pub is_unknown : HalfCell → Bool
is_unknown c = not (is_known c)

-- the least index below `to` whose cell is not known
abbrev pub first_unknown : List HalfCell → ℕ → Option ℕ
first_unknown cells to = position is_unknown (take to cells)
