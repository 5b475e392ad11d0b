use Rattle.std.proofs.Common.{◌+◌, Bool, ◌&&◌, ap, sym, ◌∙◌}
use Rattle.std.specs.List.{list_all}
use Rattle.ans_redraw.specs.Form.{is_blank}
use Rattle.ans_redraw.proofs.RowTexts.{next_cell, cells_from}
use Rattle.ans_redraw.proofs.row.are_blank.Goals as goal

pub returns-then-not-is_blank : goal.returns-then-not-is_blank
returns-then-not-is_blank c =
    let bytes = c.args.bytes.now in
    let attributes = c.args.attributes.now in
    let i = c.loop-i.i in
    ap (λ (t : Bool). t && list_all is_blank (cells_from bytes attributes (i + 1)))
    (sym c.if-not-is_blank.true ∙ c.is_blank.ensures)
    ∙ ap (list_all is_blank) (sym (next_cell bytes attributes i c.loop-i-test.true c.requires)) ∙ c.loop-i.invariant

pub loop-i-preserved : goal.loop-i-preserved
loop-i-preserved c =
    let bytes = c.args.bytes.now in
    let attributes = c.args.attributes.now in
    let i = c.loop-i.i in
    ap (λ (t : Bool). t && list_all is_blank (cells_from bytes attributes (i + 1)))
    (sym c.if-not-is_blank.false ∙ c.is_blank.ensures)
    ∙ ap (list_all is_blank) (sym (next_cell bytes attributes i c.loop-i-test.true c.requires)) ∙ c.loop-i.invariant
