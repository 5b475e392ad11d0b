-- The fault at the end of bytes whose tokens are clean.
use Rattle.std.specs.Prelude.{◌≡◌, ◌≢◌, ◌⊎◌, ℕ, ◌+◌, ◌<◌, List, ◌++◌, length}
use Rattle.ans_model.specs.Sequence.TokenKind.{TokenKind}
use Rattle.ans_model.specs.declared.fault.Fault.{Fault}
use Rattle.ans_model.specs.declared.fault.Cause.TheVariants.{EndInSequence, UnknownCell}
use Rattle.ans_model.specs.declared.cell.Position.{Position}
use Rattle.ans_model.specs.Sequence.Spelling.{IsUnfinished}
use Rattle.ans_model.specs.Sequence.Reads.{Reads}
use Rattle.ans_model.specs.File.Refusals.{fault_at}
use Rattle.ans_model.specs.Screen.State.{Size, IsSize, State, IsStated, cell_at}
use Rattle.ans_model.specs.Screen.Step.{final}
use Rattle.ans_model.specs.Screen.StartClass.{IsStart}
use Rattle.ans_model.specs.declared.start.Start.{Start}
use Rattle.ans_model.specs.Verdict.TokenFault.{IsClean}
use Rattle.ans_model.specs.Verdict.FirstFault.{IsFirstFault}

-- in the end the cell at this position is the same from every start
abbrev pub SameCell : Size → Start → List TokenKind → Position → Type 0
SameCell z class tokens p =
    (s t : State) → IsStart z class s → IsStart z class t
    → cell_at z (final z s tokens).screen p ≡ cell_at z (final z t tokens).screen p

-- in the end the cell at this position differs between two starts
abbrev pub CellsDiffer : Size → Start → List TokenKind → Position → Type 0
CellsDiffer z class tokens p =
    (s t : State) × IsStart z class s × IsStart z class t
    × (cell_at z (final z s tokens).screen p ≢ cell_at z (final z t tokens).screen p)

-- row by row, and in a row by columns
abbrev pub IsBefore : Position → Position → Type 0
IsBefore p q = (p.row < q.row) ⊎ ((p.row ≡ q.row) × (p.column < q.column))

-- the first position of the stated lines whose cell differs
pub record IsFirstUnknown (z : Size) (class : Start) (tokens : List TokenKind) (p : Position) : Type 0 where
  pub stated : IsStated z p
  pub differs : CellsDiffer z class tokens p
  pub earlier : (q : Position) → IsStated z q → IsBefore q p → SameCell z class tokens q

-- the bytes end in an unfinished sequence
pub record EndsInSequence (z : Size) (class : Start) (bytes : List ℕ) (fault : Fault) : Type 0 where
  pub size : IsSize z
  pub front : List ℕ
  pub text : List ℕ
  pub whole : bytes ≡ front ++ text
  pub tokens : List TokenKind
  pub reads : Reads front tokens
  pub clean : IsClean z class tokens
  pub unfinished : IsUnfinished text
  pub fault_is : fault ≡ fault_at (length front) EndInSequence

-- a cell stays unknown; its row and column are counted from 1
pub record LeavesUnknown (z : Size) (class : Start) (bytes : List ℕ) (fault : Fault) : Type 0 where
  pub size : IsSize z
  pub tokens : List TokenKind
  pub reads : Reads bytes tokens
  pub clean : IsClean z class tokens
  pub position : Position
  pub first : IsFirstUnknown z class tokens position
  pub fault_is : fault ≡ fault_at (length bytes) (UnknownCell (position.row + 1) (position.column + 1))

-- The fault is that at the end of the bytes.
abbrev pub IsLastFault : Size → Start → List ℕ → Fault → Type 0
IsLastFault z class bytes fault = EndsInSequence z class bytes fault ⊎ LeavesUnknown z class bytes fault

-- the bytes have this fault, as their first or as their last
abbrev pub IsDeserved : Size → Start → List ℕ → Fault → Type 0
IsDeserved z class bytes fault = IsFirstFault z class bytes fault ⊎ IsLastFault z class bytes fault
