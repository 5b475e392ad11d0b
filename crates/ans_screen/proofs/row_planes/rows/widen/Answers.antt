use Rattle.std.proofs.Common.{arith, rules, refl}
use Rattle.ans_screen.specs.RowCells.{held_row}
use Rattle.ans_screen.proofs.Widened.{IsWidened, widened, widened_inside, none_held}
use Rattle.ans_screen.proofs.row_planes.rows.widen.Goals as goal

pub begin-requires-clause-empty : goal.begin-requires-clause-empty
begin-requires-clause-empty o c =
    none_held (o.P.RowPlanes.planes_of c.args.grid.now) c.args.row c.args.from c.held_row-held.result
    c.held_row-held.ensures (omega arith)
    c.requires.start (omega arith)

pub returns : goal.returns
returns o c =
    let h : IsWidened (o.P.RowPlanes.planes_of c.args.grid.now) (o.P.RowPlanes.planes_of c.mark_known.new.grid)
    (o.P.RowPlanes.planes_of c.write_blank.new.grid) (o.P.RowPlanes.planes_of c.write_blank-2.new.grid)
    (o.P.RowPlanes.planes_of c.hold.new.self) c.args.row c.args.from c.stop_ahead-stop.result c.held_row-held.result
    (held_row (o.P.RowPlanes.planes_of c.write_blank-2.new.grid).round c.if-held-2.known c.min.result
    c.max.result) = record {
      row_there = omega (arith, (o.P.RowPlanes.planes_of c.args.grid.now).whole_held);
      holds = c.held_row-held.ensures;
      start = c.requires.start;
      stop = c.stop_ahead-stop.ensures.within;
      marks = c.mark_known.ensures.marked;
      front = c.write_blank.ensures.blanks;
      back = c.write_blank-2.ensures.blanks;
      marked = c.mark_known.ensures.same;
      fronted = c.write_blank.ensures.same;
      backed = c.write_blank-2.ensures.same;
      has = c.hold.ensures;
      round = refl;
      first = c.min.ensures;
      end = c.max.ensures;
    } in
    record {
      same = widened h;
      held = λ i le lt. widened_inside h i le (omega (arith, c.stop_ahead-stop.ensures.from));
      known = search rules;
    }
