use Rattle.std.proofs.Common.{◌≡◌, ◌*◌, ◌+◌, ◌-◌, ◌/◌, ℕ, min, max, arith, ap, ◌∙◌, List}
use Rattle.ans_model.specs.Screen.Step.{filled}
use Rattle.ans_screen.specs.RowCells.{cells_of_grid, length_grid}
use Rattle.ans_screen.specs.declared.cell.HalfCell.{HalfCell}
use Rattle.ans_screen.proofs.Places.{filled_on, row_between}
use Rattle.ans_screen.proofs.row_planes.cells.fill_rows.Goals as goal

pub loop-row-preserved : goal.loop-row-preserved
loop-row-preserved o c =
    let g = (o.P.RowPlanes.planes_of c.args.grid.now) in
    let w = g.width in
    let row = c.loop-row.row in
    let cell = c.args.cell.now in
    let before = c.loop-row.invariant in
    let first_row = ap (λ (n : ℕ). c.args.from / n) c.frame.ensures.width in
    let last_row = ap (λ (n : ℕ). (c.args.to - 1) / n) c.frame.ensures.width in
    let between = row_between w c.args.from c.args.to row g.some_width c.requires.ordered (omega (arith, first_row))
    (omega (arith, last_row)) in
    let now = o.P.RowPlanes.planes_of c.loop-row.grid in
    let start : row * now.width ≡ row * w = ap (λ (n : ℕ). row * n) before.width in
    let mid = max c.args.from (min c.args.to (row * w)) in
    let stop = max c.args.from (min c.args.to ((row + 1) * w)) in
    let first : row * now.width + c.saturating_sub.result ≡ mid =
    omega (arith, between, start, c.row_start-start.ensures.start) in
    let last : row * now.width + c.min-end.result ≡ stop =
    omega (arith, between, start, c.row_start-start.ensures.start) in
    record {
      cells = rw (first, last) at c.fill_row.ensures.cells
          ∙ (ap (λ (xs : List HalfCell). filled xs mid stop cell) before.cells
          ∙ filled_on (cells_of_grid g) c.args.from mid stop cell (omega arith)
          (omega (arith, between, start)) (omega (arith, length_grid g, c.requires.within)));
      width = c.fill_row.ensures.width ∙ before.width;
      rows = c.fill_row.ensures.rows ∙ before.rows;
    }
