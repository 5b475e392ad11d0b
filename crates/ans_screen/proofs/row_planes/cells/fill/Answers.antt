use Rattle.std.proofs.Common.{◌≡◌, ℕ, arith, ap, sym, ◌∙◌}
use Rattle.ans_model.specs.Screen.Step.{filled}
use Rattle.ans_model.proofs.FilledLemmas.{filled_none}
use Rattle.ans_screen.specs.RowCells.{cells_of_grid}
use Rattle.ans_screen.proofs.row_planes.cells.fill.Goals as goal

pub returns-else-from-to-clause-cells : goal.returns-else-from-to-clause-cells
returns-else-from-to-clause-cells o c =
    let cells = cells_of_grid (o.P.RowPlanes.planes_of c.args.grid.now) in
    let none : c.args.to ≡ c.args.from = omega arith in
    sym (ap (λ (n : ℕ). filled cells c.args.from n c.args.cell) none ∙ filled_none cells c.args.from c.args.cell)
