-- Laws of a step: what each line of the table of steps changes and what it leaves. Those of the moves are in MoveLaws.
use Rattle.std.specs.Prelude.{◌≡◌, ◌≢◌, ◌⊎◌, ℕ, ◌+◌, ◌*◌, ◌≤◌, ◌<◌, Bool, true, false, List, set, Some}
use Rattle.std.specs.Prelude.{slice_get, take, replicate}
use Rattle.ans_model.specs.Sequence.TokenKind.{TokenKind, PrintsByte, Glyph, Bell, LineFeed, Tab, Clear, EraseLine}
use Rattle.ans_model.specs.Sequence.TokenKind.{Save, Colours, Wrap, Mode, Keys, Ask}
use Rattle.ans_model.specs.Sequence.Reads.{Reads}
use Rattle.ans_model.specs.Screen.State.{Size, IsSize, State, IsWellFormed, IsOnScreen, at, cell, cell_at, cell_count}
use Rattle.ans_model.specs.Screen.State.{index}
use Rattle.ans_model.specs.declared.cell.Cell.{Cell}
use Rattle.ans_model.specs.declared.cell.Position.{Position}
use Rattle.ans_model.specs.Screen.Attribute.{attribute_after_all}
use Rattle.ans_model.specs.Screen.Step.{step, final, filled, next_row_start, blank_cell, tab_blanks}
use Rattle.ans_model.specs.Bytes.{blank}
use Rattle.ans_model.specs.declared.start.Start.{Start}
use Rattle.ans_model.specs.Verdict.TokenFault.{FromEvery, IsClean}
use Rattle.ans_model.specs.Verdict.Good.{IsGood}
use Rattle.ans_laws.specs.MoveLaws.{IsLastColumn}

-- nothing but the screen and the cursor has changed
pub record OnlyScreenAndCursor (s t : State) : Type 0 where
  pub saved : t.saved ≡ s.saved
  pub attribute : t.attribute ≡ s.attribute
  pub wrap : t.wrap ≡ s.wrap

-- Save copies the cursor to the saved cursor, and changes nothing else.
abbrev pub SavesCursor : Type 0
SavesCursor = (z : Size) (s : State) → step z s Save ≡ record s { saved = s.cursor }

-- Colours apply the parameters to the attribute, one after the other, and change nothing else.
abbrev pub ColoursChangeAttribute : Type 0
ColoursChangeAttribute = (z : Size) (s : State) (parameters : List ℕ)
    → step z s (Colours parameters) ≡ record s { attribute = attribute_after_all s.attribute parameters }

-- Wrap sets wrap on or off, and changes nothing else.
abbrev pub WrapChangesWrap : Type 0
WrapChangesWrap = (z : Size) (s : State) (on : Bool) → step z s (Wrap on) ≡ record s { wrap = on }

-- tokens that change nothing
abbrev pub IsIdle : TokenKind → Type 0
IsIdle Bell = Unit {0}
IsIdle Mode = Unit {0}
IsIdle Keys = Unit {0}
IsIdle Ask = Unit {0}
IsIdle _ = ⊥

-- Bell, Mode, Keys and Ask change nothing.
abbrev pub IdleChangesNothing : Type 0
IdleChangesNothing = (z : Size) (s : State) (t : TokenKind) → IsIdle t → step z s t ≡ s

-- Clear makes each cell blank with the current attribute and takes the cursor home; nothing else changes.
pub record IsCleared (z : Size) (s t : State) : Type 0 where
  pub blank : (p : Position) → IsOnScreen z p → cell_at z t.screen p ≡ Some (blank_cell s.attribute)
  pub home : t.cursor ≡ at 0 0
  pub others : OnlyScreenAndCursor s t

-- the position is in the cursor's row, at the cursor or right of it
abbrev pub IsErased : Position → Position → Type 0
IsErased cursor p = (p.row ≡ cursor.row) × (cursor.column ≤ p.column)

-- EraseLine makes the cursor's cell and those right of it blank, and leaves each other cell and all else.
pub record IsLineErased (z : Size) (s t : State) : Type 0 where
  pub erased : (p : Position) → IsOnScreen z p → IsErased s.cursor p
      → cell_at z t.screen p ≡ Some (blank_cell s.attribute)
  pub kept : (p : Position) → IsOnScreen z p → ¬ IsErased s.cursor p → cell_at z t.screen p ≡ cell_at z s.screen p
  pub cursor : t.cursor ≡ s.cursor
  pub others : OnlyScreenAndCursor s t

-- the position is directly above the other
abbrev pub IsAbove : Position → Position → Type 0
IsAbove p q = (p.row + 1 ≡ q.row) × (p.column ≡ q.column)

-- a byte that is printed here scrolls the screen: in the last column of the spare row, where wrap is on
abbrev pub PrintScrolls : Size → State → Type 0
PrintScrolls z s = (s.cursor.row ≡ z.lines) × IsLastColumn z s.cursor.column × (s.wrap ≡ true)

-- where the cursor goes on to after a printed byte that does not scroll the screen
abbrev pub NextPosition : Size → State → Position → Type 0
NextPosition z s next =
    ((s.cursor.column + 1 < z.width) × (next ≡ at s.cursor.row (s.cursor.column + 1)))
    ⊎ (IsLastColumn z s.cursor.column × (s.wrap ≡ true) × (next ≡ at (s.cursor.row + 1) 0))
    ⊎ (IsLastColumn z s.cursor.column × (s.wrap ≡ false) × (next ≡ s.cursor))

-- one cell has changed, and the cursor is at the next position
pub record ChangesOneCell (z : Size) (s : State) (byte : ℕ) (t : State) : Type 0 where
  pub printed : cell_at z t.screen s.cursor ≡ Some (cell byte s.attribute)
  pub kept : (p : Position) → IsOnScreen z p → p ≢ s.cursor → cell_at z t.screen p ≡ cell_at z s.screen p
  pub cursor : NextPosition z s t.cursor
  pub others : OnlyScreenAndCursor s t

-- A Glyph that does not scroll the screen changes one cell, and takes the cursor to the next position.
abbrev pub GlyphPrints : Type 0
GlyphPrints = (z : Size) (s : State) (byte : ℕ) → IsWellFormed z s → ¬ PrintScrolls z s
    → ChangesOneCell z s byte (step z s (Glyph byte))

-- One cell has changed, then each row has moved up and the last is blank, and the cursor is at its beginning.
pub record IsPrintedAndScrolled (z : Size) (s : State) (byte : ℕ) (t : State) : Type 0 where
  pub printed : (p : Position) → IsAbove p s.cursor → cell_at z t.screen p ≡ Some (cell byte s.attribute)
  pub rows : (p : Position) → IsOnScreen z p → p.row < z.lines → ¬ IsAbove p s.cursor
      → cell_at z t.screen p ≡ cell_at z s.screen (at (p.row + 1) p.column)
  pub last : (column : ℕ) → column < z.width → cell_at z t.screen (at z.lines column) ≡ Some (blank_cell s.attribute)
  pub cursor : t.cursor ≡ at z.lines 0
  pub others : OnlyScreenAndCursor s t

-- A Glyph in the last column of the spare row, where wrap is on, is printed and then scrolls the screen.
abbrev pub GlyphScrolls : Type 0
GlyphScrolls = (z : Size) (s : State) (byte : ℕ) → IsWellFormed z s → PrintScrolls z s
    → IsPrintedAndScrolled z s byte (step z s (Glyph byte))

-- A Tab is the play of `count` printed blanks, at least one and at most eight. They take the cursor to the next column
-- that 8 divides, if the row goes on that far.
pub record PrintsBlanks (z : Size) (s : State) (count : ℕ) : Type 0 where
  pub some : 1 ≤ count
  pub most : count ≤ 8
  pub to_stop : (stop : ℕ) × (s.cursor.column + count ≡ 8 * stop)
  pub played : step z s Tab ≡ final z s (replicate count (Glyph blank))

-- A LineFeed above the spare row takes the cursor down one row and changes nothing else.
abbrev pub LineFeedMovesDown : Type 0
LineFeedMovesDown = (z : Size) (s : State) → s.cursor.row < z.lines
    → step z s LineFeed ≡ record s { cursor = at (s.cursor.row + 1) s.cursor.column }

-- The screen is scrolled by one row: each row but the last is the row below it, and the last is blank.
pub record IsScrolled (z : Size) (s t : State) : Type 0 where
  pub rows : (p : Position) → IsOnScreen z p → p.row < z.lines
      → cell_at z t.screen p ≡ cell_at z s.screen (at (p.row + 1) p.column)
  pub last : (column : ℕ) → column < z.width → cell_at z t.screen (at z.lines column) ≡ Some (blank_cell s.attribute)
  pub cursor : t.cursor ≡ s.cursor
  pub others : OnlyScreenAndCursor s t

-- A LineFeed in the spare row scrolls the screen.
abbrev pub LineFeedScrolls : Type 0
LineFeedScrolls = (z : Size) (s : State) → IsWellFormed z s → s.cursor.row ≡ z.lines
    → IsScrolled z s (step z s LineFeed)

-- After a step the state is still one of the machine.
abbrev pub StepsAreWellFormed : Type 0
StepsAreWellFormed = (z : Size) (s : State) (t : TokenKind) → IsSize z → PrintsByte t → IsWellFormed z s
    → IsWellFormed z (step z s t)

-- what a token other than a tab writes to the screen in place, with no row moved
abbrev pub screen_in_place : Size → State → TokenKind → List Cell
screen_in_place z s Clear = replicate (cell_count z) (blank_cell s.attribute)
screen_in_place z s EraseLine = filled s.screen (index z s.cursor) (next_row_start z s.cursor) (blank_cell s.attribute)
screen_in_place z s (Glyph byte) = set s.screen (index z s.cursor) (cell byte s.attribute)
screen_in_place z s _ = s.screen

-- the token scrolls here: a line feed in the spare row, or a byte printed in its last column where wrap is on; a tab
-- scrolls where one of its blanks does
abbrev pub ScrollsAt : Size → State → TokenKind → Type 0
ScrollsAt z s LineFeed = s.cursor.row ≡ z.lines
ScrollsAt z s (Glyph byte) = PrintScrolls z s
ScrollsAt z s Tab =
    (n : ℕ) × (n < tab_blanks s.cursor.column) × PrintScrolls z (final z s (replicate n (Glyph blank)))
ScrollsAt z s _ = ⊥

-- The token does not scroll here, and what it writes to the screen it writes in place; a tab writes by its blanks.
pub record WritesInPlace (z : Size) (s : State) (t : TokenKind) : Type 0 where
  pub never_scrolls : ¬ ScrollsAt z s t
  pub in_place : t ≢ Tab → (step z s t).screen ≡ screen_in_place z s t

-- Where tokens are clean none of them scrolls, from any start: not a line feed, not a print that wraps, and not a tab.
abbrev pub CleanNeverScrolls : Type 0
CleanNeverScrolls =
    (z : Size) (class : Start) (tokens : List TokenKind) (k : ℕ) (t : TokenKind) → IsSize z → IsClean z class tokens
    → slice_get tokens k ≡ Some t → FromEvery z class (λ s. WritesInPlace z (final z s (take k tokens)) t)

-- The tokens that good content reads as never scroll, from any start.
abbrev pub GoodNeverScrolls : Type 0
GoodNeverScrolls =
    (z : Size) (class : Start) (content : List ℕ) (tokens : List TokenKind) (k : ℕ) (t : TokenKind)
    → IsGood z class content → Reads content tokens
    → slice_get tokens k ≡ Some t → FromEvery z class (λ s. WritesInPlace z (final z s (take k tokens)) t)
