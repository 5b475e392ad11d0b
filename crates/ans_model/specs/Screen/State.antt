-- The machine's state: a screen of one row more than the stated lines, two cursors, an attribute and wrap.
use Rattle.std.specs.Prelude.{◌≡◌, ℕ, ◌+◌, ◌*◌, ◌<◌, ◌≤◌, Bool, List, length, All, Option, slice_get}
use Rattle.ans_model.specs.Bytes.{IsByte, most_columns, most_lines}
use Rattle.ans_model.specs.declared.cell.Cell.{Cell}
use Rattle.ans_model.specs.declared.cell.Position.{Position}

-- the stated size; below the lines the screen has a spare row
pub record Size : Type 0 where
  pub width : ℕ
  pub lines : ℕ

-- the size of this many columns and lines
abbrev pub sized : ℕ → ℕ → Size
sized width lines = record { width = width; lines = lines }

-- a screen has a column and a line
pub record IsSize (z : Size) : Type 0 where
  pub some_columns : 0 < z.width
  pub some_lines : 0 < z.lines

-- a size within the limits of a screen (profile)
pub record IsPlayableSize (z : Size) : Type 0 where
  pub some_columns : 1 ≤ z.width
  pub columns : z.width ≤ most_columns
  pub some_lines : 1 ≤ z.lines
  pub lines : z.lines ≤ most_lines

-- the cells in row order, the cursor, the saved cursor, the current attribute, and whether wrap is on
pub record State : Type 0 where
  pub screen : List Cell
  pub cursor : Position
  pub saved : Position
  pub attribute : ℕ
  pub wrap : Bool

-- the position of a row and a column
abbrev pub at : ℕ → ℕ → Position
at row column = record { row = row; column = column }

-- the cell of a byte and an attribute
abbrev pub cell : ℕ → ℕ → Cell
cell byte attribute = record { byte = byte; attribute = attribute }

-- how many cells the screen has, those of the spare row included
abbrev pub cell_count : Size → ℕ
cell_count z = (z.lines + 1) * z.width

-- the index of a position in row order
abbrev pub index : Size → Position → ℕ
index z p = p.row * z.width + p.column

-- the cell at a position
abbrev pub cell_at : Size → List Cell → Position → Option Cell
cell_at z cells p = slice_get cells (index z p)

-- a position of the stated lines or the spare row
abbrev pub IsOnScreen : Size → Position → Type 0
IsOnScreen z p = (p.row ≤ z.lines) × (p.column < z.width)

-- a position of the stated lines
abbrev pub IsStated : Size → Position → Type 0
IsStated z p = (p.row < z.lines) × (p.column < z.width)

-- the byte and the attribute fit a byte
abbrev pub IsByteCell : Cell → Type 0
IsByteCell c = IsByte c.byte × IsByte c.attribute

-- there are as many cells as the screen has, and both cursors are on it
pub record FitsScreen (z : Size) (s : State) : Type 0 where
  pub cells : length s.screen ≡ cell_count z
  pub cursor : IsOnScreen z s.cursor
  pub saved : IsOnScreen z s.saved

-- a state of the machine: it fits its screen, and each byte and attribute is one
pub record IsWellFormed (z : Size) (s : State) : Type 0 where
  pub fits : FitsScreen z s
  pub bytes : All IsByteCell s.screen
  pub attribute : IsByte s.attribute
