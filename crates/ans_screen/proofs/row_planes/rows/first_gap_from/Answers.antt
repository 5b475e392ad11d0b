use Rattle.std.proofs.Common.{arith}
use Rattle.ans_screen.proofs.Zeros.{gap_in_slices, end_is_gap}
use Rattle.ans_screen.proofs.row_planes.rows.first_gap_from.Goals as goal

pub returns-in-Some : goal.returns-in-Some
returns-in-Some o c =
    let g = o.P.RowPlanes.planes_of c.args.grid.now in
    let facts = c.in-Some.ensures in
    gap_in_slices g.glyphs_known g.bits_known _ _ c.args.from c.args.to c.in-Some.i c.known_bytes-glyphs_known.ensures
    c.known_bytes-bits_known.ensures (omega (arith, facts.0, c.known_bytes-glyphs_known.ensures.within)) facts.1 facts.2

pub returns-then-count-to : goal.returns-then-count-to
returns-then-count-to o c =
    let g = o.P.RowPlanes.planes_of c.args.grid.now in
    gap_in_slices g.glyphs_known g.bits_known _ _ c.args.from c.args.to c.min-count.result
    c.known_bytes-glyphs_known.ensures c.known_bytes-bits_known.ensures c.if-count-to.true c.in_default.ensures
    (end_is_gap _ _ c.min-count.result c.min-count.ensures)
