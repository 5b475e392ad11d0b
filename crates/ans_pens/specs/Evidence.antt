-- What the plays from the low and the high start show of a fault: where their cursors are before its token, and the
-- cell in which they differ.
use Rattle.std.specs.Prelude.{◌≡◌, ℕ, ◌+◌, Bool, true, false, ◌==◌, List, [], ◌∷◌, Option, None, Some, ⊤}
use Rattle.ans_model.specs.Sequence.TokenKind.{TokenKind}
use Rattle.ans_model.specs.Sequence.Reads.{IsReadUpTo, Reads}
use Rattle.ans_model.specs.Screen.State.{Size, cell_at}
use Rattle.ans_model.specs.declared.cell.Cell.{Cell}
use Rattle.ans_model.specs.declared.cell.Position.{Position}
use Rattle.ans_model.specs.declared.fault.Cause.{Cause}
use Rattle.ans_model.specs.declared.fault.Cause.TheVariants.{UnknownCell}
use Rattle.ans_model.specs.declared.fault.Fault.{Fault}
use Rattle.ans_model.specs.declared.start.Start.{Start}
use Rattle.ans_model.specs.Verdict.TokenFault.{HasTabFault, then_blanks}
use Rattle.ans_model.specs.Verdict.TwoStarts.{low_final, high_final}

-- the bytes begin with a tab
abbrev pub begins_with_tab : List ℕ → Bool
begins_with_tab [] = false
begins_with_tab (byte ∷ rest) = byte == 0x09

-- What is played before the fault: the tokens before its own, and in a tab also the blanks before the one that decides.
abbrev pub IsPlayedBefore : Size → Start → List TokenKind → Bool → Cause → List TokenKind → Type 0
IsPlayedBefore z class tokens false cause played = played ≡ tokens
IsPlayedBefore z class tokens true cause played =
    (tab : HasTabFault z class tokens cause) × (played ≡ then_blanks tokens tab.blanks_before)

-- the bytes before the fault's offset are read as tokens, and these are played before it
pub record StandsBefore (z : Size) (class : Start) (content : List ℕ) (fault : Fault)
    (played : List TokenKind) : Type 0 where
  pub tokens : List TokenKind
  pub rest : List ℕ
  pub read : IsReadUpTo content fault.offset tokens rest
  pub before : IsPlayedBefore z class tokens (begins_with_tab rest) fault.cause played

-- before the fault the cursors of the two plays are at these positions
pub record ShowsCursors (z : Size) (class : Start) (content : List ℕ) (fault : Fault)
    (low high : Position) : Type 0 where
  pub played : List TokenKind
  pub stands : StandsBefore z class content fault played
  pub low_is : low ≡ (low_final z class played).cursor
  pub high_is : high ≡ (high_final z class played).cursor

-- in the end the two plays have these cells in this row and column, counted from 1
pub record ShowsCells (z : Size) (class : Start) (content : List ℕ) (row column : ℕ) (low high : Cell) : Type 0 where
  pub tokens : List TokenKind
  pub reads : Reads content tokens
  pub position : Position
  pub row_is : row ≡ position.row + 1
  pub column_is : column ≡ position.column + 1
  pub low_is : cell_at z (low_final z class tokens).screen position ≡ Some low
  pub high_is : cell_at z (high_final z class tokens).screen position ≡ Some high

-- a fault that names a cell has the cells of both plays there, and another has none
abbrev pub ShowsNamed : Size → Start → List ℕ → Cause → Option (Cell × Cell) → Type 0
ShowsNamed z class content (UnknownCell row column) (Some (low, high)) = ShowsCells z class content row column low high
ShowsNamed z class content (UnknownCell row column) None = ⊥
ShowsNamed z class content _ (Some cells) = ⊥
ShowsNamed z class content _ None = ⊤
