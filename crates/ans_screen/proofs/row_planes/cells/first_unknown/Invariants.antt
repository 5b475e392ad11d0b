use Rattle.std.proofs.Common.{◌≡◌, ℕ, ◌*◌, ◌<◌, false}
use Rattle.ans_screen.specs.GridEdits.{is_unknown}
use Rattle.ans_screen.specs.RowCells.{cell_in_grid}
use Rattle.ans_screen.proofs.row_planes.cells.first_unknown.Given as goal

-- all cells of the rows so far are known
abbrev pub invariant-loop-row : goal.invariant-loop-row
invariant-loop-row o l =
    (i : ℕ) → i < l.row * (o.P.RowPlanes.planes_of l.grid).width → i < l.to → is_unknown (cell_in_grid
    (o.P.RowPlanes.planes_of l.grid) i) ≡ false
