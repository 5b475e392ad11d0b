use Rattle.std.proofs.Common.{◌≡◌, ◌/◌, arith, ◌∙◌}
use Rattle.ans_screen.proofs.Places.{row_of}
use Rattle.ans_screen.proofs.RowCells.{in_held, state_here}
use Rattle.ans_screen.proofs.row_planes.rows.open.Goals as goal

pub returns-then-not-held-clause-held : goal.returns-then-not-held-clause-held
returns-then-not-held-clause-held o c = λ i le lt.
    let g = (o.P.RowPlanes.planes_of c.args.grid.now) in
    let facts = c.holds.ensures c.if-holds.true in
    let at : i / g.width ≡ c.args.row = row_of g.width c.args.row i (omega arith) (omega arith) in
    let r = c.row-held.result in
    state_here g c.args.row i r at c.row-held.ensures
    ∙ in_held g.round r i facts.0 (omega (arith, facts.1)) (omega (arith, facts.2))
