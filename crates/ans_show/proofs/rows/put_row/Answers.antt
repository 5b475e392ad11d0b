use Rattle.std.proofs.Common.{rules, ◌≡◌, ◌<◌, ◌≤◌, ◌*◌, ◌++◌, ℕ, List, length, drop, ap, ap₂, ◌∙◌, arith}
use Rattle.std.specs.Prelude.{All}
use Rattle.std.specs.Simd.Lanes.{zip2}
use Rattle.std.proofs.lemmas.List.{length-map}
use Rattle.std.proofs.lemmas.List.Elements.{All-drop, All-take}
use Rattle.ans_model.specs.declared.cell.Cell.{Cell}
use Rattle.ans_model.specs.Screen.State.{cell, IsByteCell}
use Rattle.ans_model.specs.Verdict.Good.{Picture, IsPictureOf}
use Rattle.ans_play.specs.Shown.{attributes_of_row, bytes_of_row, cells_of_row}
use Rattle.ans_show.specs.declared.markup.Markup.{Markup}
use Rattle.ans_show.specs.Markups.{end_in, line_in, run_end_in}
use Rattle.ans_write.proofs.PutsLemmas.{Puts-same}
use Rattle.ans_write.proofs.RowTexts.{cells_zipped}
use Rattle.ans_show.specs.MarkupTables.{cells_shown}
use Rattle.ans_show.proofs.CellRuns.{row_line}
use Rattle.ans_show.proofs.rows.put_row.Goals as goal

-- the text of a row's cells, without the end of a run in front and with one behind, is the row's line
line_is : (markup : Markup) (p : Picture) (row : ℕ) (bytes attributes text : List ℕ) → IsPictureOf p.size p
    → 0 < p.size.width → length bytes ≡ p.size.width → bytes ≡ bytes_of_row p row
    → attributes ≡ attributes_of_row p row → text ≡ cells_shown markup 256 (zip2 cell bytes attributes)
    → (length (run_end_in markup) ≤ length text)
    × (drop (length (run_end_in markup)) text ++ (run_end_in markup ++ end_in markup)
    ≡ line_in markup (cells_of_row p row))
line_is markup p row bytes attributes text whole columns size glyphs colours is =
    let cells = cells_of_row p row in
    let zipped = ap₂ (λ (x y : List ℕ). zip2 cell x y) glyphs colours ∙ cells_zipped cells in
    let all : All IsByteCell cells =
    All-take IsByteCell p.size.width (drop (row * p.size.width) p.cells)
    (All-drop IsByteCell (row * p.size.width) p.cells whole.bytes) in
    let some : 0 < length cells =
    omega (arith, columns, size, ap length glyphs, length-map cells (λ (x : Cell). x.byte)) in
    row_line markup cells text (is ∙ ap (cells_shown markup 256) zipped) some all

pub put_cells-requires : goal.put_cells-requires
put_cells-requires g c =
    (line_is c.args.tables.now.markup c.args.picture.now c.args.row _ _ _ c.width-width.ensures.whole
    c.width-width.ensures.limits.some_columns (search rules) c.copy_glyphs.ensures c.copy_attributes.ensures
    c.write_row-end.ensures.text).0

pub returns-clause-puts : goal.returns-clause-puts
returns-clause-puts g c =
    Puts-same
    (line_is c.args.tables.now.markup c.args.picture.now c.args.row _ _ _ c.width-width.ensures.whole
    c.width-width.ensures.limits.some_columns (search rules) c.copy_glyphs.ensures c.copy_attributes.ensures
    c.write_row-end.ensures.text).1
    c.put_cells.ensures
