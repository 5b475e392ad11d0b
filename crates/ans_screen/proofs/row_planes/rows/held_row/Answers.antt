use Rattle.std.proofs.Common.{◌≡◌, ℕ, ◌/◌, ◌<◌, ◌≤◌, ◌+◌, ◌*◌, get_or, arith, ◌∙◌, inl, inr}
use Rattle.ans_screen.specs.RowCells.{never_written, states_of, Stale}
use Rattle.ans_screen.proofs.Places.{row_of}
use Rattle.ans_screen.proofs.RowCells.{in_held, off_held, off_round, state_here}
use Rattle.ans_screen.proofs.row_planes.rows.held_row.Goals as goal

pub returns : goal.returns
returns o c =
    let g = (o.P.RowPlanes.planes_of c.args.grid.now) in
    let r = c.row-round.result in
    let read : r ≡ get_or g.held c.args.row never_written = c.row-round.ensures in
    record {
      round = omega arith;
      start = omega (arith, c.max.ensures, c.min-first.ensures);
      ordered = omega (arith, c.max-2.ensures, c.min-first.ensures, c.min-end.ensures);
      stop = omega (arith, c.min-end.ensures);
      inside = λ i le lt.
          let at : i / g.width ≡ c.args.row = row_of g.width c.args.row i
          (omega (arith, c.max.ensures, c.min-first.ensures)) (omega (arith, c.min-end.ensures)) in
          state_here g c.args.row i r at read
          ∙ in_held g.round r i (omega arith) (omega (arith, c.max.ensures, c.min-first.ensures, c.min-end.ensures))
          (omega (arith, c.max.ensures, c.min-first.ensures, c.max-2.ensures, c.min-end.ensures));
      before = λ i le lt.
          let at : i / g.width ≡ c.args.row = row_of g.width c.args.row i le
          (omega (arith, c.min-first.ensures)) in
          state_here g c.args.row i r at read
          ∙ off_held g.round r i (inl (omega (arith, c.max.ensures, c.min-first.ensures)));
      after = λ i le lt.
          let at : i / g.width ≡ c.args.row = row_of g.width c.args.row i
          (omega (arith, c.max.ensures, c.min-first.ensures, c.max-2.ensures, c.min-end.ensures)) lt in
          state_here g c.args.row i r at read
          ∙ off_held g.round r i (inr (omega (arith, c.max-2.ensures, c.min-end.ensures)));
    }

pub returns-then-round : goal.returns-then-round
returns-then-round o c =
    let g = (o.P.RowPlanes.planes_of c.args.grid.now) in
    let r = c.row-round.result in
    let read : r ≡ get_or g.held c.args.row never_written = c.row-round.ensures in
    let stale : (i : ℕ) → c.args.row * g.width ≤ i → i < c.args.row * g.width + g.width → states_of g i ≡ Stale =
    λ i le lt. state_here g c.args.row i r (row_of g.width c.args.row i le lt) read
    ∙ off_round g.round r i (rw c.round.ensures at c.if-round.true) in
    record {
      round = omega arith;
      start = c.requires.start;
      ordered = omega arith;
      stop = c.requires.end;
      inside = λ i le lt. absurd (omega arith);
      before = λ i le lt. stale i le (omega arith);
      after = λ i le lt. stale i (omega arith) lt;
    }
