use Rattle.std.proofs.Common.{sym, subst, Bool}
use Rattle.ans_screen.specs.RowCells.{IsMarked}
use Rattle.ans_screen.proofs.RowWrites.{marked_known}
use Rattle.ans_screen.proofs.row_planes.rows.mark_known.Goals as goal

pub returns-then-not-known-clause-marked : goal.returns-then-not-known-clause-marked
returns-then-not-known-clause-marked o c =
    let g = o.P.RowPlanes.planes_of c.args.grid.now in
    let n = o.P.RowPlanes.planes_of c.fill_known.new.self in
    let done = c.fill_known.ensures in
    subst (λ (k : Bool). IsMarked c.args.held k g n) (sym c.if-not-known.true)
    (marked_known g n c.args.held c.if-held.true c.requires.ordered c.requires.within done.shown done.glyphs_known
    done.bits_known)
