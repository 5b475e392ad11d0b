use Rattle.std.proofs.Common.{◌*◌, ◌/◌, ◌<◌, ◌∙◌, arith, ap, refl, sym, inl, inr}
use Rattle.ans_screen.specs.RowCells.{Stale, Known, Mixed, state_of, length_grid}
use Rattle.ans_screen.proofs.Places.{places_of}
use Rattle.ans_screen.proofs.RowReads.{read_cell}
use Rattle.ans_screen.proofs.RowCells.{cell_in_state}
use Rattle.ans_screen.proofs.row_planes.cells.get.Goals as goal

pub returns-then-i-held : goal.returns-then-i-held
returns-then-i-held o c =
    let g = o.P.RowPlanes.planes_of c.args.grid.now in
    let i = c.args.i in
    let held = rw c.frame.ensures.width at c.held_row-held.ensures in
    let place = places_of g.width (i / g.width) i g.some_width refl in
    read_cell g (omega (arith, length_grid g)) (c.frame-then-i-held.ensures.blank
    ∙ sym (cell_in_state g Stale i (elim c.then-i-held.either [
      | inl before ↦ held.before i place.0 before
      | inr past ↦ held.after i past.1 place.1
    ])))

pub returns-then-held : goal.returns-then-held
returns-then-held o c =
    let g = o.P.RowPlanes.planes_of c.args.grid.now in
    let i = c.args.i in
    let within : i < g.width * g.rows = omega (arith, length_grid g) in
    let state = c.held_row-held.ensures.inside i (omega arith) (omega arith) ∙ ap state_of c.if-held.true in
    read_cell g within (c.cell_of_bytes.ensures ∙ (c.known.ensures
    ∙ sym (cell_in_state g Known i state
    ∙ rw (c.shown-glyph.ensures.glyph, c.shown-glyph.ensures.value) refl)))

pub returns-else-held : goal.returns-else-held
returns-else-held o c =
    let g = o.P.RowPlanes.planes_of c.args.grid.now in
    let i = c.args.i in
    let within : i < g.width * g.rows = omega (arith, length_grid g) in
    let state = c.held_row-held.ensures.inside i (omega arith) (omega arith) ∙ ap state_of c.if-held.false in
    read_cell g within (c.cell_of_bytes-else-held.ensures
    ∙ sym (cell_in_state g Mixed i state
    ∙ rw (
      c.shown-glyph.ensures.glyph,
      c.shown-glyph.ensures.value,
      c.known-glyph_known.ensures.glyph,
      c.known-glyph_known.ensures.value,
    ) refl))
