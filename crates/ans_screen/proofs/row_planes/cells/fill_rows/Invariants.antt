use Rattle.std.proofs.Common.{◌≡◌, ◌*◌, min, max}
use Rattle.ans_model.specs.Screen.Step.{filled}
use Rattle.ans_screen.specs.RowCells.{cells_of_grid}
use Rattle.ans_screen.proofs.row_planes.cells.fill_rows.Given as goal

-- the cells of the rows so far are filled
abbrev pub invariant-loop-row : goal.invariant-loop-row
invariant-loop-row o l = record {
  cells : cells_of_grid (o.P.RowPlanes.planes_of l.grid)
      ≡ filled (cells_of_grid (o.P.RowPlanes.planes_of l.fn.grid)) l.from (max l.from (min l.to (l.row *
      (o.P.RowPlanes.planes_of l.fn.grid).width))) l.cell;
  width : (o.P.RowPlanes.planes_of l.grid).width ≡ (o.P.RowPlanes.planes_of l.fn.grid).width;
  rows : (o.P.RowPlanes.planes_of l.grid).rows ≡ (o.P.RowPlanes.planes_of l.fn.grid).rows;
}
