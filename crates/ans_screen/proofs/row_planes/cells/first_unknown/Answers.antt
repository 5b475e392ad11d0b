use Rattle.std.proofs.Common.{◌≡◌, ℕ, ◌*◌, ◌≤◌, arith, ap, Some, None, inl, inr}
use Rattle.std.proofs.lemmas.Bool.{cases_lt}
use Rattle.ans_screen.specs.RowCells.{length_grid}
use Rattle.ans_screen.proofs.RowReads.{first_of_grid}
use Rattle.ans_screen.proofs.row_planes.cells.first_unknown.Goals as goal

pub returns-then-start-to : goal.returns-then-start-to
returns-then-start-to o c =
    first_of_grid (o.P.RowPlanes.planes_of c.args.grid.now) c.args.to None (omega (
      arith,
      length_grid
          (o.P.RowPlanes.planes_of c.args.grid.now),
    ))
    (λ i start lt. c.loop-row.invariant i (omega arith) lt)

pub returns-in-Some : goal.returns-in-Some
returns-in-Some o c =
    let found = c.in-Some.ensures in
    let start = c.row_start-start.ensures.start in
    first_of_grid (o.P.RowPlanes.planes_of c.args.grid.now) c.args.to (Some c.in-Some.i) (omega (
      arith,
      length_grid
          (o.P.RowPlanes.planes_of c.args.grid.now),
    )) (
      omega arith,
      omega (arith, found.1, c.min.ensures),
      λ i first lt. elim (cases_lt i c.row_start-start.result) [
        | inl before ↦ c.loop-row.invariant i (omega (arith, start)) (omega (arith, found.1, c.min.ensures))
        | inr after ↦ found.2 i (omega (arith, start)) lt
      ],
      found.3,
    )

pub returns : goal.returns
returns o c =
    let g = (o.P.RowPlanes.planes_of c.args.grid.now) in
    let within : c.args.to ≤ g.width * g.rows = omega (arith, length_grid g) in
    let all : c.loop-row.row ≡ g.rows = omega arith in
    let cells : c.loop-row.row * g.width ≡ g.rows * g.width = ap (λ (n : ℕ). n * g.width) all in
    first_of_grid g c.args.to None within (λ i start lt. c.loop-row.invariant i (omega arith) lt)
