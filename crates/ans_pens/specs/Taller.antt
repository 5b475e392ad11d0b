-- Content that plays on a taller screen as on the stated one.
use Rattle.std.specs.Prelude.{◌≡◌, ℕ, ◌+◌, ◌≤◌, List, take, slice_get, Some}
use Rattle.ans_model.specs.Sequence.TokenKind.{TokenKind, Up, Down}
use Rattle.ans_model.specs.Sequence.Reads.{Reads}
use Rattle.ans_model.specs.Screen.State.{Size, State}
use Rattle.ans_model.specs.Screen.Step.{final}
use Rattle.ans_model.specs.Screen.StartClass.{IsStart}
use Rattle.ans_model.specs.Verdict.TokenFault.{FromEvery}
use Rattle.ans_model.specs.declared.start.Start.{Start}

-- after these tokens the cursor's row is the same from every start
abbrev pub SameRow : Size → Start → List TokenKind → Type 0
SameRow z class played = (s t : State) → IsStart z class s → IsStart z class t
    → (final z s played).cursor.row ≡ (final z t played).cursor.row

-- No move down is stopped by the bottom edge, and at each move up the cursor's row is the same from every start.
pub record MovesFreely (z : Size) (class : Start) (tokens : List TokenKind) : Type 0 where
  pub down : (k n : ℕ) → slice_get tokens k ≡ Some (Down n)
      → FromEvery z class (λ s. (final z s (take k tokens)).cursor.row + n ≤ z.lines)
  pub up : (k n : ℕ) → slice_get tokens k ≡ Some (Up n) → SameRow z class (take k tokens)

-- the content's moves are free
pub record IsTaller (z : Size) (class : Start) (content : List ℕ) : Type 0 where
  pub tokens : List TokenKind
  pub reads : Reads content tokens
  pub free : MovesFreely z class tokens
