use Rattle.std.proofs.Common.{arith, ◌<◌, get_or, ◌∙◌}
use Rattle.ans_write.proofs.RowTexts.{cell_more}
use Rattle.ans_write.proofs.tables.Tables.write_digits.Goals as goal

pub loop-i-preserved : goal.loop-i-preserved
loop-i-preserved c =
    let i = c.loop-i.i in
    let b = get_or c.args.bytes.now i 0 in
    let a = get_or c.args.attributes.now i 0 in
    let byte : b < 256 = omega (arith, (c.type_inv.bytes i).fits) in
    let attribute : a < 256 = omega (arith, (c.type_inv.attributes i).fits) in
    cell_more c.loop-i.text c.copy_from_slice.new.self c.copy_from_slice-in-loop-i.new.self c.args.bytes.now
    c.args.attributes.now i _ _ 0 0 (omega arith) (omega arith) (omega arith)
    (c.copy_from_slice.ensures.after ∙ c.args.self.now.told b _ byte)
    (c.copy_from_slice-in-loop-i.ensures.after ∙ c.args.self.now.told a _ attribute) c.loop-i.invariant
