-- Laws of the tokens that move the cursor: one for each line of the table of steps, the screen's edges included.
use Rattle.std.specs.Prelude.{◌≡◌, ◌⊎◌, ℕ, ◌+◌, ◌<◌, ◌≤◌}
use Rattle.ans_model.specs.Sequence.TokenKind.{TokenKind, BackSpace, CarriageReturn, Up, Down, Forward, Backward}
use Rattle.ans_model.specs.Sequence.TokenKind.{Place, Restore}
use Rattle.ans_model.specs.Screen.State.{Size, State, IsOnScreen}
use Rattle.ans_model.specs.declared.cell.Position.{Position}
use Rattle.ans_model.specs.Screen.Step.{step}

-- nothing but the cursor has changed
pub record OnlyCursor (s t : State) : Type 0 where
  pub screen : t.screen ≡ s.screen
  pub saved : t.saved ≡ s.saved
  pub attribute : t.attribute ≡ s.attribute
  pub wrap : t.wrap ≡ s.wrap

-- tokens that change only the cursor
abbrev pub IsMove : TokenKind → Type 0
IsMove (Up n) = Unit {0}
IsMove (Down n) = Unit {0}
IsMove (Forward n) = Unit {0}
IsMove (Backward n) = Unit {0}
IsMove (Place row column) = Unit {0}
IsMove BackSpace = Unit {0}
IsMove CarriageReturn = Unit {0}
IsMove Restore = Unit {0}
IsMove _ = ⊥

-- A move, a place, a backspace, a carriage return and a restore change only the cursor.
abbrev pub MovesChangeCursor : Type 0
MovesChangeCursor = (z : Size) (s : State) (t : TokenKind) → IsMove t → OnlyCursor s (step z s t)

-- the column of the screen that has none to its right
abbrev pub IsLastColumn : Size → ℕ → Type 0
IsLastColumn z column = column + 1 ≡ z.width

-- the new number is n less than the old one, or 0 where n is more than that
abbrev pub IsLessBy : ℕ → ℕ → ℕ → Type 0
IsLessBy n old new = ((n ≤ old) × (new + n ≡ old)) ⊎ ((old < n) × (new ≡ 0))

-- the new number is n more than the old one, or the last where that is beyond it
abbrev pub IsMoreBy : ℕ → ℕ → ℕ → ℕ → Type 0
IsMoreBy n last old new = ((old + n ≤ last) × (new ≡ old + n)) ⊎ ((last < old + n) × (new ≡ last))

-- the new row or column, counted from 0, is the given one, counted from 1; or the first or the last, where the screen
-- has no such one
abbrev pub IsNearest : ℕ → ℕ → ℕ → Type 0
IsNearest given last new =
    ((given ≡ 0) × (new ≡ 0))
    ⊎ ((0 < given) × (given ≤ last + 1) × (new + 1 ≡ given))
    ⊎ ((last + 1 < given) × (new ≡ last))

-- Where each move takes the cursor of this state.
pub record MovesGoWhereTheySay (z : Size) (s : State) : Type 0 where
  -- n rows up, to row 0 at most
  pub up : (n : ℕ) → let new = (step z s (Up n)).cursor in
      IsLessBy n s.cursor.row new.row × (new.column ≡ s.cursor.column)
  -- n rows down, to the spare row at most
  pub down : (n : ℕ) → let new = (step z s (Down n)).cursor in
      IsMoreBy n z.lines s.cursor.row new.row × (new.column ≡ s.cursor.column)
  -- n columns to the right, to the last at most
  pub forward : (n last : ℕ) → IsLastColumn z last → let new = (step z s (Forward n)).cursor in
      (new.row ≡ s.cursor.row) × IsMoreBy n last s.cursor.column new.column
  -- n columns to the left, to column 0 at most
  pub backward : (n : ℕ) → let new = (step z s (Backward n)).cursor in
      (new.row ≡ s.cursor.row) × IsLessBy n s.cursor.column new.column
  -- one column to the left
  pub back_space : let new = (step z s BackSpace).cursor in
      (new.row ≡ s.cursor.row) × IsLessBy 1 s.cursor.column new.column
  -- to column 0 of the row
  pub carriage_return : let new = (step z s CarriageReturn).cursor in (new.row ≡ s.cursor.row) × (new.column ≡ 0)
  -- to the saved position
  pub restore : (step z s Restore).cursor ≡ s.saved
  -- to a position of the screen, counted from 1
  pub place : (p : Position) → IsOnScreen z p → (step z s (Place (p.row + 1) (p.column + 1))).cursor ≡ p
  -- to the nearest row and to the nearest column that the screen has
  pub place_edges : (row column last : ℕ) → IsLastColumn z last → let new = (step z s (Place row column)).cursor in
      IsNearest row z.lines new.row × IsNearest column last new.column
