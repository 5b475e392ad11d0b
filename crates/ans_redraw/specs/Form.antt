-- The plainest form of a picture: the cells that are no blanks, each with the way to it, its colours and its byte.
use Rattle.std.specs.Prelude.{ℕ, ◌+◌, ◌-◌, ◌/◌, ◌%◌, nat_le, Bool, true, false, not, ◌&&◌, ◌||◌, ◌==◌, List, [], ◌∷◌}
use Rattle.std.specs.Prelude.{◌++◌, length, map, get_or, replicate, codes, decimal, if◌then◌else◌}
use Rattle.std.specs.List.{list_all, concat}
use Rattle.ans_model.specs.Bytes.{bracket, blank}
use Rattle.ans_model.specs.Sequence.TokenKind.{Glyph, Forward, Up, Down, Place, CarriageReturn, LineFeed}
use Rattle.ans_model.specs.declared.cell.Cell.{Cell}
use Rattle.ans_model.specs.Screen.Step.{blank_cell}
use Rattle.ans_model.specs.Text.ReportText.{rows_of}
use Rattle.ans_model.specs.Verdict.Good.{Picture}
use Rattle.ans_players.specs.Situations.{Spelled}
use Rattle.ans_players.specs.Mends.{sequence, mending_spelled}
use Rattle.ans_redraw.specs.declared.pen.RowPen.{RowPen}
use Rattle.ans_redraw.specs.Colours.{colour_token, colours_to}

-- the bytes of spelled tokens
abbrev pub texts : List Spelled → List ℕ
texts xs = concat (map (λ x. x.text) xs)

-- a blank of white on black, as a cleared screen has
abbrev pub is_blank : Cell → Bool
is_blank c = c.byte == blank && c.attribute == 0x07

-- a printed byte
abbrev pub glyph : ℕ → Spelled
glyph byte = record { token = Glyph byte; text = byte ∷ [] }

-- CR LF
abbrev pub line_end : List Spelled
line_end = record { token = CarriageReturn; text = 0x0D ∷ [] } ∷ record { token = LineFeed; text = 0x0A ∷ [] } ∷ []

-- this many columns on: `ESC[C` or `ESC[nC`
abbrev pub skip : ℕ → Spelled
skip n = sequence (Forward n) (bracket ∷ ((if n == 1 then [] else decimal n) ++ codes "C"))

-- over at most 254 blanks: up to four are printed where the attribute is white on black, others are skipped
abbrev pub over_few : ℕ → ℕ → List Spelled
over_few attribute n =
    if attribute == 0x07 && nat_le n 4 then replicate n (glyph blank)
    else if n == 0 then []
    else skip n ∷ []

-- over any number of blanks, at most 255 by one sequence
abbrev pub over : ℕ → ℕ → List Spelled
over attribute n = replicate (n / 255) (skip 255) ++ over_few attribute (n % 255)

-- how far a row is drawn: the current attribute, and how many cells were passed over since the last byte
abbrev pub pen : ℕ → ℕ → RowPen
pen attribute passed = record { attribute = attribute; passed = passed }

-- a cell: nothing if it is a blank; else the way to it, its colours and its byte
abbrev pub cell_drawn : RowPen → Cell → List Spelled
cell_drawn p c =
    if is_blank c then [] else over p.attribute p.passed ++ (colours_to p.attribute c.attribute ++ glyph c.byte ∷ [])

-- the pen after the cell
abbrev pub pen_after : RowPen → Cell → RowPen
pen_after p c = if is_blank c then pen p.attribute (p.passed + 1) else pen c.attribute 0

-- the cells of a row
abbrev pub drawn : RowPen → List Cell → List Spelled
drawn p [] = []
drawn p (c ∷ row) = cell_drawn p c ++ drawn (pen_after p c) row

-- the pen after them
abbrev pub pen_behind : RowPen → List Cell → RowPen
pen_behind p [] = p
pen_behind p (c ∷ row) = pen_behind (pen_after p c) row

-- There is nothing but blanks in the rows.
abbrev pub are_blank : List (List Cell) → Bool
are_blank rows = list_all (list_all is_blank) rows

-- Bits 4 to 7: the background is not black, or it blinks, which is a background on a screen with iCE colours.
abbrev pub is_coloured : ℕ → Bool
is_coloured attribute = not (attribute / 16 == 0)

-- the last cell of a row
abbrev pub last_cell : List Cell → Cell
last_cell row = get_or row (length row - 1) (blank_cell 0x07)

-- There are rows.
abbrev pub are_some : List (List Cell) → Bool
are_some [] = false
are_some (row ∷ rows) = true

-- A row is full if its last cell is no blank: its last byte wraps. The row below has to be there, and black, before
-- that, since a screen that scrolls brings it in in the background of the moment. So it is opened first, if rows are
-- drawn below, or if the last cell is coloured and there is a row below.
abbrev pub opens_below : Bool → Bool → List Cell → Bool
opens_below follows is_there row =
    not (is_blank (last_cell row)) && (follows || is_coloured (last_cell row).attribute && is_there)

-- the colours of white on black, if the attribute is coloured
abbrev pub black : ℕ → List Spelled
black attribute = if is_coloured attribute then colours_to attribute 0x07 else []

-- the attribute after them
abbrev pub blackened : ℕ → ℕ
blackened attribute = if is_coloured attribute then 0x07 else attribute

-- a line feed and `ESC[A`: down and back
abbrev pub down_and_up : List Spelled
down_and_up = record { token = LineFeed; text = 0x0A ∷ [] } ∷ sequence (Up 1) (codes "[A") ∷ []

-- this many rows down: `ESC[nB`
abbrev pub down : ℕ → Spelled
down n = sequence (Down n) (bracket ∷ (decimal n ++ codes "B"))

-- any number of rows down, at most 255 by one sequence
abbrev pub downward : ℕ → List Spelled
downward n = replicate (n / 255) (down 255) ++ (if n % 255 == 0 then [] else down (n % 255) ∷ [])

-- the first column of a row, counted from 1: `ESC[rH`; above 255, the largest number of a sequence, `ESC[H` and down
abbrev pub row_place : ℕ → List Spelled
row_place r =
    if nat_le r 255 then sequence (Place r 1) (bracket ∷ (decimal r ++ codes "H")) ∷ []
    else sequence (Place 1 1) (codes "[H") ∷ downward (r - 1)

-- before a row: if the row below is opened, that, in black
abbrev pub before_row : Bool → ℕ → List Spelled
before_row opens attribute = if opens then black attribute ++ down_and_up else []

-- the attribute there
abbrev pub at_row : Bool → ℕ → ℕ
at_row opens attribute = if opens then blackened attribute else attribute

-- after row r, counted from 0: the place of the row below, if it was opened; else, if rows follow, black and a line end
abbrev pub after_row : Bool → Bool → ℕ → ℕ → List Spelled
after_row opens follows r attribute =
    if opens then row_place (r + 2) else if follows then black attribute ++ line_end else []

-- the attribute there
abbrev pub below_row : Bool → Bool → ℕ → ℕ
below_row opens follows attribute = if not opens && follows then blackened attribute else attribute

-- row r, with what comes before and after it
abbrev pub row_drawn : Bool → Bool → ℕ → ℕ → List Cell → List Spelled
row_drawn opens follows r attribute row =
    before_row opens attribute
    ++ (drawn (pen (at_row opens attribute) 0) row
    ++ after_row opens follows r (pen_behind (pen (at_row opens attribute) 0) row).attribute)

-- the attribute after it
abbrev pub attribute_after_row : Bool → Bool → ℕ → List Cell → ℕ
attribute_after_row opens follows attribute row =
    below_row opens follows (pen_behind (pen (at_row opens attribute) 0) row).attribute

-- `ESC[0m`: a player's own white on black
abbrev pub set_back : List Spelled
set_back = colour_token (0 ∷ []) ∷ []

-- The rows from row r on, as long as a cell follows that is no blank; and the end.
abbrev pub rows_drawn : ℕ → ℕ → List (List Cell) → List Spelled
rows_drawn r attribute [] = set_back
rows_drawn r attribute (row ∷ below) =
    if are_blank (row ∷ below) then set_back
    else row_drawn (opens_below (not (are_blank below)) (are_some below) row) (not (are_blank below)) r attribute row
    ++ rows_drawn (r + 1)
    (attribute_after_row (opens_below (not (are_blank below)) (are_some below) row) (not (are_blank below)) attribute
    row) below

-- the form: the mending, and after it the rows, on a cleared screen
abbrev pub form : Picture → List Spelled
form picture = mending_spelled ++ rows_drawn 0 0x07 (rows_of picture)

-- its bytes
abbrev pub form_bytes : Picture → List ℕ
form_bytes picture = texts (form picture)
