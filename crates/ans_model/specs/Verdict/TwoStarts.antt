-- What the plays from the low and the high start show of a fault that comes of starts that differ.
use Rattle.std.specs.Prelude.{◌≡◌, ◌≢◌, ◌⊎◌, ℕ, ◌+◌, List, ◌++◌, ⊤}
use Rattle.ans_model.specs.Sequence.TokenKind.{TokenKind, Tab}
use Rattle.ans_model.specs.declared.fault.Fault.{Fault}
use Rattle.ans_model.specs.declared.fault.Cause.{Cause}
use Rattle.ans_model.specs.declared.fault.Cause.TheVariants.{PrintUnknownPlace, EraseUnknownPlace, MayScroll}
use Rattle.ans_model.specs.declared.fault.Cause.TheVariants.{UnknownCell}
use Rattle.ans_model.specs.declared.cell.Position.{Position}
use Rattle.ans_model.specs.Sequence.Reads.{SpellsToken, IsReadUpTo}
use Rattle.ans_model.specs.Screen.State.{Size, State, IsStated, cell_at}
use Rattle.ans_model.specs.Screen.Step.{final}
use Rattle.ans_model.specs.Screen.StartClass.{low_start, high_start}
use Rattle.ans_model.specs.declared.start.Start.{Start}
use Rattle.ans_model.specs.Verdict.TokenFault.{IsInSpareRow, HasTabFault, then_blanks}
use Rattle.ans_model.specs.Verdict.LastFault.{IsBefore}

-- the state after these tokens from the low start
abbrev pub low_final : Size → Start → List TokenKind → State
low_final z class tokens = final z (low_start z class) tokens

-- the state after these tokens from the high start
abbrev pub high_final : Size → Start → List TokenKind → State
high_final z class tokens = final z (high_start z class) tokens

-- the cursors of the two plays differ
abbrev pub CursorsDiffer : Size → Start → List TokenKind → Type 0
CursorsDiffer z class tokens = (low_final z class tokens).cursor ≢ (high_final z class tokens).cursor

-- A tab follows the tokens, and the cursors of the two plays differ before the blank that decides its fault.
pub record CursorsDifferInTab (z : Size) (class : Start) (tokens : List TokenKind) (rest : List ℕ) : Type 0 where
  pub text : List ℕ
  pub later : List ℕ
  pub follows : rest ≡ text ++ later
  pub is_tab : SpellsToken Tab text
  pub fault : HasTabFault z class tokens PrintUnknownPlace
  pub differ : CursorsDiffer z class (then_blanks tokens fault.blanks_before)

-- from exactly one of the two starts the cursor ends in the spare row, where a line feed scrolls
abbrev pub OneIsInSpareRow : Size → Start → List TokenKind → Type 0
OneIsInSpareRow z class tokens =
    (IsInSpareRow z tokens (low_start z class) × ¬ IsInSpareRow z tokens (high_start z class))
    ⊎ (¬ IsInSpareRow z tokens (low_start z class) × IsInSpareRow z tokens (high_start z class))

-- the two screens agree in each stated cell before this row and column, counted from 1, and differ there
pub record IsFirstDifference (z : Size) (class : Start) (tokens : List TokenKind) (row column : ℕ) : Type 0 where
  pub position : Position
  pub stated : IsStated z position
  pub row_is : row ≡ position.row + 1
  pub column_is : column ≡ position.column + 1
  pub differs : cell_at z (low_final z class tokens).screen position
      ≢ cell_at z (high_final z class tokens).screen position
  pub earlier : (p : Position) → IsStated z p → IsBefore p position
      → cell_at z (low_final z class tokens).screen p ≡ cell_at z (high_final z class tokens).screen p

-- After these tokens, where the rest of the bytes begins, the two plays show the cause. Of a certain one there is
-- nothing to show.
abbrev pub TwoStartsShow : Size → Start → List TokenKind → List ℕ → Cause → Type 0
TwoStartsShow z class tokens rest PrintUnknownPlace =
    CursorsDiffer z class tokens ⊎ CursorsDifferInTab z class tokens rest
TwoStartsShow z class tokens rest EraseUnknownPlace = CursorsDiffer z class tokens
TwoStartsShow z class tokens rest MayScroll = OneIsInSpareRow z class tokens
TwoStartsShow z class tokens rest (UnknownCell row column) = IsFirstDifference z class tokens row column
TwoStartsShow z class tokens rest _ = ⊤

-- the bytes up to the fault's offset are read as tokens, after which the two plays show its cause
pub record IsShownByTwoStarts (z : Size) (class : Start) (bytes : List ℕ) (fault : Fault) : Type 0 where
  pub tokens : List TokenKind
  pub rest : List ℕ
  pub read : IsReadUpTo bytes fault.offset tokens rest
  pub shown : TwoStartsShow z class tokens rest fault.cause
