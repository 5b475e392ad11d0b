-- What it means that rows at the end are empty.
use Rattle.std.specs.Prelude.{◌≡◌, ℕ, ◌+◌, ◌-◌, ◌<◌, List, take, fold, replicate, slice_get, Some}
use Rattle.ans_model.specs.Bytes.{blank}
use Rattle.ans_model.specs.Sequence.TokenKind.{TokenKind, Glyph, Tab}
use Rattle.ans_model.specs.Screen.State.{Size, State}
use Rattle.ans_model.specs.Screen.Step.{final, put, tab_blanks}
use Rattle.ans_model.specs.Screen.StartClass.{cleared}
use Rattle.ans_hints.specs.Rows.{empty_rows}

-- in this state the token prints in this row: a glyph, or a blank of a tab
abbrev pub PrintsIn : Size → State → TokenKind → ℕ → Type 0
PrintsIn z s (Glyph byte) row = s.cursor.row ≡ row
PrintsIn z s Tab row =
    (n : ℕ) × (n < tab_blanks s.cursor.column) × ((fold (put z) s (replicate n blank)).cursor.row ≡ row)
PrintsIn z s _ row = ⊥

-- in the play from this state one of the tokens prints in this row
pub record SomePrintsIn (z : Size) (s : State) (tokens : List TokenKind) (row : ℕ) : Type 0 where
  pub k : ℕ
  pub token : TokenKind
  pub is_token : slice_get tokens k ≡ Some token
  pub prints : PrintsIn z (final z s (take k tokens)) token row

-- In the stated lines that are counted as empty nothing is printed.
abbrev pub EmptyRowsHoldNothing : Type 0
EmptyRowsHoldNothing = (z : Size) (tokens : List TokenKind) (row : ℕ) → SomePrintsIn z (cleared z) tokens row
    → row < z.lines → row + empty_rows z tokens < z.lines

-- In the line above them, where there are some and it is one, something is printed.
abbrev pub NoMoreRowsAreEmpty : Type 0
NoMoreRowsAreEmpty = (z : Size) (tokens : List TokenKind) → 0 < empty_rows z tokens → empty_rows z tokens < z.lines
    → SomePrintsIn z (cleared z) tokens (z.lines - empty_rows z tokens - 1)
