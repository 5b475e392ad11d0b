use Rattle.std.proofs.Common.{◌≡◌, ◌*◌, ◌+◌, arith, set}
use Rattle.ans_model.specs.Screen.Step.{filled}
use Rattle.ans_screen.proofs.Places.{filled_one, row_end}
use Rattle.ans_play.proofs.play.put_at.Goals as goal

pub returns-clause-cells : goal.returns-clause-cells
returns-clause-cells g c =
    let grid = c.args.grid.now in
    let cells = g.G.Screen.cells_of grid in
    let at = c.args.position.row * g.G.Screen.width_of grid + c.args.position.column in
    let next : c.args.position.row * g.G.Screen.width_of grid + (c.args.position.column + 1) ≡ at + 1 = omega arith in
    let one : filled cells at (at + 1) c.args.cell ≡ set cells at c.args.cell =
    filled_one cells at c.args.cell (omega (
      arith,
      g.met.G.Screen.whole grid,
      row_end (g.G.Screen.width_of grid) c.args.position.row (g.G.Screen.rows_of grid) c.requires.row,
    )) in
    rw (c.fill_row.ensures.cells, next) one
