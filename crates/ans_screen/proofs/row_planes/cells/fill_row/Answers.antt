use Rattle.std.proofs.Common.{◌+◌, ◌*◌, ◌≤◌, List, ap, arith, ◌∙◌}
use Rattle.ans_model.specs.Screen.Step.{filled}
use Rattle.ans_screen.specs.declared.cell.HalfCell.{HalfCell}
use Rattle.ans_screen.proofs.RowEdits.{fill_shown}
use Rattle.ans_screen.proofs.row_planes.cells.fill_row.Goals as goal

pub returns-clause-cells : goal.returns-clause-cells
returns-clause-cells o c =
    let g = o.P.RowPlanes.planes_of c.open-known.new.grid in
    let opened = c.open-known.ensures in
    let h = c.fill_planes.ensures in
    let x = c.of_cell-bytes.result in
    let start = c.row_start-start.result in
    let room : start + c.args.to ≤ g.width * g.rows =
    rw (opened.same.width, opened.same.rows) (omega (arith, c.row_start-start.ensures.end)) in
    rw c.row_start-start.ensures.start at
    (fill_shown x.glyph_known x.bits_known x.value h.same (omega arith) room h.values h.marks opened.held x.glyph
    c.args.cell h.glyphs c.of_cell-bytes.ensures
    ∙ ap (λ (xs : List HalfCell). filled xs (start + c.args.from) (start + c.args.to) c.args.cell) opened.same.cells)
