-- What one token does to the state (ANSI.SYS), and what a list of tokens does.
use Rattle.std.specs.Prelude.{ℕ, ◌+◌, ◌-◌, ◌*◌, ◌%◌, min, List, ◌++◌, fold, take, drop, set, replicate, if◌then◌else◌}
use Rattle.std.specs.Prelude.{nat_lt, ◌==◌}
use Rattle.ans_model.specs.Bytes.{blank}
use Rattle.ans_model.specs.Sequence.TokenKind.{TokenKind, Glyph, BackSpace, LineFeed, CarriageReturn, Up, Down, Forward}
use Rattle.ans_model.specs.Sequence.TokenKind.{Backward, Place, Clear, EraseLine, Save, Restore, Colours, Wrap, Tab}
use Rattle.ans_model.specs.Screen.Attribute.{attribute_after_all}
use Rattle.ans_model.specs.Screen.State.{Size, State, at, cell, cell_count, index}
use Rattle.ans_model.specs.declared.cell.Cell.{Cell}
use Rattle.ans_model.specs.declared.cell.Position.{Position}

-- a blank of this attribute
abbrev pub blank_cell : ℕ → Cell
blank_cell attribute = cell blank attribute

-- the cells from `from` up to and without `to` are `c`
abbrev pub filled : {A : Type 0} → List A → ℕ → ℕ → A → List A
filled cells from to c = take from cells ++ replicate (to - from) c ++ drop to cells

-- where the row below begins
abbrev pub next_row_start : Size → Position → ℕ
next_row_start z p = (p.row + 1) * z.width

-- Where a token takes the cursor, if that is all that it does. A move stops at the screen's edge; so does a place
-- (profile).
abbrev pub destination : Size → TokenKind → Position → Position
destination z (Up n) p = at (p.row - n) p.column
destination z (Down n) p = at (min (p.row + n) z.lines) p.column
destination z (Forward n) p = at p.row (min (p.column + n) (z.width - 1))
destination z (Backward n) p = at p.row (p.column - n)
destination z (Place row column) p = at (min (row - 1) z.lines) (min (column - 1) (z.width - 1))
destination z BackSpace p = at p.row (p.column - 1)
destination z CarriageReturn p = at p.row 0
destination z _ p = p

-- Row 0 is dropped, each other row moves up, and the last row is blank with the current attribute (profile).
abbrev pub scrolled : Size → State → State
scrolled z s = record s { screen = drop z.width s.screen ++ replicate z.width (blank_cell s.attribute) }

-- one row down; in the spare row the screen scrolls
abbrev pub line_feed : Size → State → State
line_feed z s =
    if s.cursor.row == z.lines then scrolled z s
    else record s { cursor = at (s.cursor.row + 1) s.cursor.column }

-- The cursor goes on after a printed byte. In the last column it wraps at once, or stays where wrap is off (profile).
abbrev pub advanced : Size → State → State
advanced z s =
    if nat_lt (s.cursor.column + 1) z.width then record s { cursor = at s.cursor.row (s.cursor.column + 1) }
    else if s.wrap then line_feed z (record s { cursor = at s.cursor.row 0 })
    else s

-- the cursor's cell is this byte with the current attribute
abbrev pub printed : Size → State → ℕ → State
printed z s byte = record s { screen = set s.screen (index z s.cursor) (cell byte s.attribute) }

-- the byte is printed, and the cursor goes on
abbrev pub put : Size → State → ℕ → State
put z s byte = advanced z (printed z s byte)

-- how many blanks a tab prints from this column: those up to the next column that 8 divides (profile)
abbrev pub tab_blanks : ℕ → ℕ
tab_blanks column = 8 - column % 8

-- What each kind of token does; the last line has those that only move the cursor, or do nothing.
abbrev pub step : Size → State → TokenKind → State
step z s Clear = record s { screen = replicate (cell_count z) (blank_cell s.attribute); cursor = at 0 0 }
step z s EraseLine =
    record s { screen = filled s.screen (index z s.cursor) (next_row_start z s.cursor) (blank_cell s.attribute) }
step z s Save = record s { saved = s.cursor }
step z s Restore = record s { cursor = s.saved }
step z s (Colours parameters) = record s { attribute = attribute_after_all s.attribute parameters }
step z s (Wrap on) = record s { wrap = on }
step z s LineFeed = line_feed z s
step z s (Glyph byte) = put z s byte
step z s Tab = fold (put z) s (replicate (tab_blanks s.cursor.column) blank)
step z s t = record s { cursor = destination z t s.cursor }

-- the state after all tokens
abbrev pub final : Size → State → List TokenKind → State
final z start tokens = fold (step z) start tokens
