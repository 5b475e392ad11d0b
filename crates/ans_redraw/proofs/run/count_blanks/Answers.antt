use Rattle.std.proofs.Common.{◌≡◌, ◌-◌, length, take, drop, ap, sym, ◌∙◌, arith}
use Rattle.std.specs.List.{list_all}
use Rattle.std.proofs.lemmas.List.{take_rest}
use Rattle.ans_redraw.specs.Form.{is_blank}
use Rattle.ans_redraw.proofs.RowTexts.{cells_behind}
use Rattle.ans_redraw.proofs.run.count_blanks.Goals as goal

pub loop-count-preserved : goal.loop-count-preserved
loop-count-preserved c =
    let bytes = c.args.bytes.now in
    let attributes = c.args.attributes.now in
    let n = c.loop-count.count in
    let bytes_left : take (length bytes - n) (drop n bytes) ≡ drop n bytes = take_rest bytes n in
    let attributes_left : take (length attributes - n) (drop n attributes) ≡ drop n attributes =
    take_rest attributes n in
    let passed = rw (bytes_left, attributes_left) at c.begins_with_blanks.ensures c.if-begins_with_blanks.true in
    record {
      within = omega arith;
      blanks = ap (list_all is_blank) (sym (cells_behind bytes attributes n 16))
          ∙ passed ∙ c.loop-count.invariant.blanks;
    }
