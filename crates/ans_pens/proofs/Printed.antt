-- A byte that is printed above the spare row.
use Rattle.std.proofs.Common.{◌≡◌, ℕ, ◌+◌, ◌<◌, ◌≤◌, Bool, true, false, set, arith}
use Rattle.std.specs.Prelude.{if◌then◌else◌, nat_lt}
use Rattle.ans_model.specs.declared.cell.Position.{Position}
use Rattle.ans_model.specs.Screen.State.{Size, State, at, cell, index}
use Rattle.ans_model.specs.Screen.Step.{printed, put}
use Rattle.ans_model.proofs.StepLemmas.{advanced_is}

-- where a printed byte takes the cursor above the spare row
abbrev pub next : Size → Position → Bool → Position
next z p wrap =
    if nat_lt (p.column + 1) z.width then at p.row (p.column + 1) else if wrap then at (p.row + 1) 0 else p

pub put_is : (z : Size) (s : State) (byte : ℕ) → s.cursor.row < z.lines → put z s byte ≡ record s {
  screen = set s.screen (index z s.cursor) (cell byte s.attribute);
  cursor = next z s.cursor s.wrap;
}
put_is z s byte above = advanced_is z (printed z s byte) above

pub next_row : (z : Size) (p : Position) (wrap : Bool) → p.row < z.lines → (next z p wrap).row ≤ z.lines
next_row z p wrap above = go (nat_lt (p.column + 1) z.width) wrap
  where
    go : (more wrap : Bool)
        → (if more then at p.row (p.column + 1) else if wrap then at (p.row + 1) 0 else p).row ≤ z.lines
    go true wrap = omega arith
    go false true = omega arith
    go false false = omega arith
