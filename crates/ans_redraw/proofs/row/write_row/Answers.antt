use Rattle.std.proofs.Common.{◌≡◌, ◌+◌, ◌-◌, ◌++◌, [], ◌∷◌, List, ℕ, false, length, take, drop, get_or, ap, sym}
use Rattle.std.proofs.Common.{◌∙◌, arith, append_assoc}
use Rattle.std.proofs.lemmas.List.{take_rest}
use Rattle.ans_model.specs.declared.cell.Cell.{Cell}
use Rattle.ans_model.specs.Screen.State.{cell}
use Rattle.ans_redraw.specs.declared.pen.RowPen.{RowPen}
use Rattle.ans_redraw.specs.Form.{drawn, pen, pen_behind, is_blank, over, glyph, texts}
use Rattle.ans_redraw.specs.Colours.{colours_to}
use Rattle.ans_redraw.proofs.RowTexts.{next_cell, cells_behind, cells_from, one_printed, pen_printed}
use Rattle.ans_redraw.proofs.row.write_row.Goals as goal

pub loop-i-preserved : goal.loop-i-preserved
loop-i-preserved c =
    let bytes = c.args.bytes.now in
    let attributes = c.args.attributes.now in
    let i = c.loop-i.i in
    let p = c.loop-i.at in
    let so_far = c.loop-i.invariant in
    let room = c.write_cell-end.ensures in
    let run = c.write_run-run in
    let front = take c.loop-i.end c.loop-i.text in
    let here : Cell = cell (get_or bytes i 0) (get_or attributes i 0) in
    let row : List Cell = cells_from bytes attributes (i + 1) in
    let next = next_cell bytes attributes i c.loop-i-test.true c.requires.same in
    let printed : is_blank here ≡ false = sym c.is_blank.ensures ∙ c.if-is_blank.false in
    let after : RowPen = pen here.attribute 0 in
    let written = take (c.write_cell-end.result + run.result) run.new.text in
    let bytes_left : take (length bytes - (i + 1)) (drop (i + 1) bytes) ≡ drop (i + 1) bytes =
    take_rest bytes (i + 1) in
    let attributes_left : take (length attributes - (i + 1)) (drop (i + 1) attributes) ≡ drop (i + 1) attributes =
    take_rest attributes (i + 1) in
    let behind = cells_behind bytes attributes (i + 1) run.result in
    let drawn_here =
    texts (over p.attribute p.passed ++ (colours_to p.attribute here.attribute ++ glyph here.byte ∷ [])) in
    rw room.pen (record {
      reached = omega arith;
      within = omega (arith, so_far, room);
      long = run.ensures.length ∙ room.length ∙ so_far.long;
      so_far = ap (λ (v : List Cell). written ++ texts (drawn after v)) (sym behind)
          ∙ rw (bytes_left, attributes_left) at run.ensures.text
          ∙ ap (λ (v : List ℕ). v ++ texts (drawn after row)) room.text
          ∙ append_assoc front drawn_here (texts (drawn after row))
          ∙ ap (λ (v : List ℕ). front ++ v) (sym (one_printed p here row printed))
          ∙ ap (λ (v : List Cell). front ++ texts (drawn p v)) (sym next) ∙ so_far.so_far;
      pen = ap (pen_behind after) (sym behind) ∙ rw (bytes_left, attributes_left) at run.ensures.pen
          ∙ sym (pen_printed p here row printed) ∙ ap (pen_behind p) (sym next) ∙ so_far.pen;
    })
