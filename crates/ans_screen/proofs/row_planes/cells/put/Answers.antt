use Rattle.std.proofs.Common.{◌≡◌, ◌+◌, ◌*◌, ◌/◌, ◌%◌, arith, ◌∙◌}
use Rattle.std.proofs.lemmas.Nat.{div-add-mod'}
use Rattle.ans_screen.specs.RowCells.{cells_of_grid}
use Rattle.ans_screen.proofs.Places.{filled_one}
use Rattle.ans_screen.proofs.row_planes.cells.put.Goals as goal

pub returns-clause-cells : goal.returns-clause-cells
returns-clause-cells o c =
    let g = o.P.RowPlanes.planes_of c.args.grid.now in
    let i = c.args.i in
    let place : i / g.width * g.width + i % g.width ≡ i = div-add-mod' i g.width in
    let next : i / g.width * g.width + (i % g.width + 1) ≡ i + 1 = omega arith in
    rw (place, next) at (rw (c.frame.ensures.width, c.frame-2.ensures.width) at c.fill_row.ensures.cells)
    ∙ filled_one (cells_of_grid g) i c.args.cell c.requires
