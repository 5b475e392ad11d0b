use Rattle.std.proofs.Common.{◌≤◌, arith}
use Rattle.ans_screen.proofs.Widened.{begun, widened, widened_inside}
use Rattle.ans_screen.proofs.row_planes.rows.begin.Goals as goal

pub returns : goal.returns
returns o c =
    let g = o.P.RowPlanes.planes_of c.args.grid.now in
    let stop = c.min-stop.result in
    let room : c.args.to ≤ stop =
    omega (arith, c.min-stop.ensures, c.max.ensures, c.row_start-start.ensures.start) in
    let h = begun g (o.P.RowPlanes.planes_of c.write_blank.new.grid) (o.P.RowPlanes.planes_of c.hold.new.self)
    c.args.row c.args.from stop c.args.known (omega (arith, g.whole_held)) c.requires.empty (omega arith)
    (omega (arith, c.min-stop.ensures, c.row_start-start.ensures.start)) c.write_blank.ensures.blanks
    c.write_blank.ensures.same c.hold.ensures in
    record { same = widened h; held = λ i le lt. widened_inside h i le (omega arith) }
