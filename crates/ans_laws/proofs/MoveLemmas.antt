-- Where the moves take the cursor.
use Rattle.std.proofs.Common.{◌≡◌, inl, inr, ℕ, ◌+◌, ◌-◌, min, refl, arith}
use Rattle.std.proofs.lemmas.Bool.{cases_lt}
use Rattle.ans_model.specs.Sequence.TokenKind.{BackSpace, CarriageReturn, Up, Down, Forward, Backward, Place, Restore}
use Rattle.ans_model.specs.Screen.State.{State}
use Rattle.ans_model.specs.declared.cell.Position.{Position}
use Rattle.ans_model.specs.Screen.Step.{step}
use Rattle.ans_laws.specs.MoveLaws.{OnlyCursor, MovesChangeCursor, IsLessBy, IsMoreBy, IsNearest}

only_cursor : (s : State) (p : Position) → OnlyCursor s (record s { cursor = p })
only_cursor s p = record { screen = refl; saved = refl; attribute = refl; wrap = refl }

pub moves_change_cursor : MovesChangeCursor
moves_change_cursor z s (Up n) m = only_cursor s (step z s (Up n)).cursor
moves_change_cursor z s (Down n) m = only_cursor s (step z s (Down n)).cursor
moves_change_cursor z s (Forward n) m = only_cursor s (step z s (Forward n)).cursor
moves_change_cursor z s (Backward n) m = only_cursor s (step z s (Backward n)).cursor
moves_change_cursor z s (Place r c) m = only_cursor s (step z s (Place r c)).cursor
moves_change_cursor z s BackSpace m = only_cursor s (step z s BackSpace).cursor
moves_change_cursor z s CarriageReturn m = only_cursor s (step z s CarriageReturn).cursor
moves_change_cursor z s Restore m = only_cursor s (step z s Restore).cursor
moves_change_cursor z s _ m = absurd m

-- ---- one coordinate: what the definitions write with `-` and `min`, in the laws' words
pub less_by : (n old new : ℕ) → new ≡ old - n → IsLessBy n old new
less_by n old new e = elim (cases_lt old n) [
  | inl less ↦ inr (less, omega (arith, e))
  | inr more ↦ inl (omega arith, omega (arith, e))
]

pub more_by : (n last old new : ℕ) → new ≡ min (old + n) last → IsMoreBy n last old new
more_by n last old new e = elim (cases_lt last (old + n)) [
  | inl beyond ↦ inr (beyond, omega (arith, e))
  | inr within ↦ inl (omega arith, omega (arith, e))
]

pub nearest : (given last new : ℕ) → new ≡ min (given - 1) last → IsNearest given last new
nearest given last new e = elim (cases_lt 0 given) [
  | inl some ↦ elim (cases_lt (last + 1) given) [
    | inl beyond ↦ inr (inr (beyond, omega (arith, e)))
    | inr within ↦ inr (inl (some, omega arith, omega (arith, e)))
  ]
  | inr none ↦ inl (omega arith, omega (arith, e))
]
