use Rattle.std.proofs.Common.{◌≡◌, ℕ, ◌+◌, ◌*◌, ◌≤◌, length, List, arith, refl, ap, sym, inl, inr, ◌∙◌}
use Rattle.std.proofs.Common.{take, eqb-true, bit_and}
use Rattle.std.proofs.lemmas.List.{length-take-le}
use Rattle.ans_model.specs.Screen.Step.{filled}
use Rattle.ans_screen.specs.KnownBits.{KnownBits, known_bits}
use Rattle.ans_screen.specs.GridEdits.{written, printed_run}
use Rattle.ans_screen.specs.RowCells.{Planes, SameRows, AreMarked, cells_of_grid}
use Rattle.ans_screen.specs.declared.cell.HalfCell.{HalfCell}
use Rattle.ans_screen.proofs.RowEdits.{run_shown}
use Rattle.ans_screen.proofs.Widened.{same_both}
use Rattle.ans_screen.proofs.row_planes.cells.write_run.Goals as goal
use Rattle.ans_screen.proofs.row_planes.cells.write_run.Given.{Over}
use Rattle.ans_screen.proofs.row_planes.cells.write_run.Goals.{After-write_shown}

-- the cells, whichever way the other two planes stand for them
written_so : (o : Over) (c : After-write_shown o) (n : Planes)
    → SameRows (o.P.RowPlanes.planes_of c.open-known.new.grid) n
    → n.glyphs ≡ (o.P.RowPlanes.planes_of c.write_shown.new.self).glyphs
    → n.values ≡ (o.P.RowPlanes.planes_of c.write_shown.new.self).values
    → AreMarked (o.P.RowPlanes.planes_of c.open-known.new.grid) n c.open-known.result
    (c.row_start.result + c.args.column) (c.row_start.result + c.args.column + c.args.count) 0xFF c.attr.inside.known
    → cells_of_grid n
    ≡ written (cells_of_grid (o.P.RowPlanes.planes_of c.args.grid.now))
    (c.args.row * (o.P.RowPlanes.planes_of c.args.grid.now).width + c.args.column)
    (printed_run c.args.attr (take c.args.count c.args.bytes.now))
written_so o c n same glyphs values marks =
    let g = o.P.RowPlanes.planes_of c.open-known.new.grid in
    let opened = c.open-known.ensures in
    let run = take c.args.count c.args.bytes.now in
    let long : length run ≡ c.args.count = length-take-le c.args.count c.args.bytes.now c.requires.count in
    let from = c.row_start.result + c.args.column in
    let room : from + c.args.count ≤ g.width * g.rows =
    rw (opened.same.width, opened.same.rows) (omega (arith, c.row_start.ensures.end)) in
    let attr : known_bits c.attr.inside.known (bit_and c.attr.inside.value c.attr.inside.known) ≡ c.args.attr =
    ap (λ (x : ℕ). known_bits c.attr.inside.known x) c.attr.invariant.within ∙ c.attr.view_is in
    rw c.row_start.ensures.start at
    (run_shown 0xFF c.attr.inside.known c.attr.inside.value same (omega arith) room
    (values ∙ c.write_shown.ensures.values) marks opened.held run (omega arith) (glyphs ∙ c.write_shown.ensures.glyphs)
    ∙ (ap (λ (a : KnownBits). written (cells_of_grid g) from (printed_run a run)) attr
    ∙ ap (λ (cells : List HalfCell). written cells from (printed_run c.args.attr run)) opened.same.cells))

pub returns-then-not-known-clause-cells : goal.returns-then-not-known-clause-cells
returns-then-not-known-clause-cells o c =
    let before = c.write_shown.ensures in
    let after = c.fill_known.ensures in
    let from = c.row_start.result + c.args.column in
    written_so o (goal.at.returns-then-not-known-clause-cells o c).After-write_shown
    (o.P.RowPlanes.planes_of c.fill_known.new.self) (same_both before.same after.same) after.shown.glyphs
    after.shown.values
    (inl (
      c.if-not-known.true,
      after.glyphs_known ∙ ap (λ (xs : List ℕ). filled xs from (from + c.args.count) 0xFF) before.known.glyphs_known,
      after.bits_known
          ∙ ap (λ (xs : List ℕ). filled xs from (from + c.args.count) c.attr.inside.known) before.known.bits_known,
    ))

pub returns-else-not-known-clause-cells : goal.returns-else-not-known-clause-cells
returns-else-not-known-clause-cells o c =
    let attr = ap (λ (a : KnownBits). a.known)
    (ap (λ (x : ℕ). known_bits c.attr.inside.known x) c.attr.invariant.within ∙ c.attr.view_is) in
    let whole = c.open-known.ensures.known c.if-not-known.false in
    let before = c.write_shown.ensures in
    written_so o (goal.at.returns-else-not-known-clause-cells o c).After-write_shown
    (o.P.RowPlanes.planes_of c.write_shown.new.self) before.same refl refl
    (inr (
      c.if-not-known.false,
      before.known,
      refl,
      attr ∙ eqb-true c.args.attr.known 0xFF (sym c.is_known.ensures ∙ whole),
    ))
