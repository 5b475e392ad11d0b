-- The picture that known cells show.
use Rattle.std.specs.Prelude.{ℕ, ◌*◌, ◌≤◌, IsTrue, List, length, All, map, take, drop, Option, unwrap_or}
use Rattle.std.specs.List.{list_all}
use Rattle.std.specs.Option.{option_map}
use Rattle.ans_model.specs.Screen.State.{Size, at, cell, cell_at}
use Rattle.ans_model.specs.Verdict.Good.{Picture}
use Rattle.ans_model.specs.declared.cell.Cell.{Cell}
use Rattle.ans_screen.specs.HalfCells.{is_known}
use Rattle.ans_play.specs.PlayView.{IsByteHalfCell}
use Rattle.ans_screen.specs.declared.cell.HalfCell.{HalfCell}

-- the cell that a known one is
abbrev pub known_cell : HalfCell → Cell
known_cell h = cell (unwrap_or h.glyph 0) h.attr.value

-- the cells of the stated lines
abbrev pub stated_cells : Size → List HalfCell → List HalfCell
stated_cells z cells = take (z.lines * z.width) cells

-- the picture of the stated lines
abbrev pub picture_of : Size → List HalfCell → Picture
picture_of z cells = record { size = z; cells = map known_cell (stated_cells z cells) }

-- the byte and the attribute at a row and a column, counted from 0
abbrev pub byte_at : Picture → ℕ → ℕ → Option ℕ
byte_at p row column = option_map (λ (c : Cell). c.byte) (cell_at p.size p.cells (at row column))

-- the attribute at a row and a column, counted from 0
abbrev pub attribute_at : Picture → ℕ → ℕ → Option ℕ
attribute_at p row column = option_map (λ (c : Cell). c.attribute) (cell_at p.size p.cells (at row column))

-- the cells of a row, counted from 0
abbrev pub cells_of_row : Picture → ℕ → List Cell
cells_of_row p row = take p.size.width (drop (row * p.size.width) p.cells)

-- the bytes of a row, counted from 0
abbrev pub bytes_of_row : Picture → ℕ → List ℕ
bytes_of_row p row = map (λ c. c.byte) (cells_of_row p row)

-- the attributes of a row, counted from 0
abbrev pub attributes_of_row : Picture → ℕ → List ℕ
attributes_of_row p row = map (λ c. c.attribute) (cells_of_row p row)

-- each cell of the stated lines is known, and what is known are bytes
pub record AreShownCells (z : Size) (cells : List HalfCell) : Type 0 where
  pub enough : z.lines * z.width ≤ length cells
  pub known : IsTrue (list_all is_known (stated_cells z cells))
  pub bytes : All IsByteHalfCell cells
