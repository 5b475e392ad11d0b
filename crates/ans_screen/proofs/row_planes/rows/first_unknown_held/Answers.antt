use Rattle.std.proofs.Common.{◌≡◌, ◌<◌, ◌≤◌, ◌+◌, ◌-◌, ℕ, arith, ap, subst, ◌∙◌}
use Rattle.ans_screen.specs.RowCells.{states_of, cell_in_grid, AreKnownCells, Mixed, state_of}
use Rattle.ans_screen.proofs.RowReads.{gap_none, gap_some}
use Rattle.ans_screen.proofs.row_planes.rows.first_unknown_held.Goals as goal
use Rattle.ans_screen.proofs.row_planes.rows.first_unknown_held.Given.{Over}
use Rattle.ans_screen.proofs.row_planes.rows.first_unknown_held.Goals.{After-first_gap_from}

-- all four planes count for the cells
mixed : (o : Over) (c : After-first_gap_from o) (i : ℕ) → c.args.from ≤ i → i < c.args.to → states_of
    (o.P.RowPlanes.planes_of c.args.grid.now) i ≡ Mixed
mixed o c i le lt = c.requires.held i le lt ∙ ap state_of c.if-known.false

pub returns-in-Some : goal.returns-in-Some
returns-in-Some o c =
    gap_some (o.P.RowPlanes.planes_of c.args.grid.now) c.args.from c.args.to c.in-Some.i
    (mixed o (goal.at.returns-in-Some o c).After-first_gap_from) c.in-Some.ensures

pub returns-in-None : goal.returns-in-None
returns-in-None o c =
    let g = o.P.RowPlanes.planes_of c.args.grid.now in
    let end : c.args.from + (c.args.to - c.args.from) ≡ c.args.to = omega arith in
    subst (λ (to : ℕ). AreKnownCells (cell_in_grid g) c.args.from to) end
    (gap_none g c.args.from c.args.to (c.args.to - c.args.from) (omega arith)
    (mixed o (goal.at.returns-in-None o c).After-first_gap_from) c.in-None.ensures)
