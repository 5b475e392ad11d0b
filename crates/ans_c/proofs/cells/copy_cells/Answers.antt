use Rattle.std.proofs.Common.{arith}
use Rattle.ans_model.specs.declared.cell.Cell.{Cell}
use Rattle.ans_c.proofs.Rows.{row_copied}
use Rattle.ans_c.proofs.cells.copy_cells.Goals as goal

pub loop-row-preserved : goal.loop-row-preserved
loop-row-preserved g c =
    let cells = c.args.picture.now.cells in
    let w = c.width-width.result in
    record {
      glyphs = row_copied (λ (x : Cell). x.byte) cells c.loop-row.glyphs c.copy_glyphs.new.bytes c.loop-row.row w _
          (grind arith) (omega (arith, c.copy_glyphs.auto.bytes)) c.loop-row.invariant.glyphs
          (rw c.width-width.ensures.width c.copy_glyphs.ensures);
      attributes = row_copied (λ (x : Cell). x.attribute) cells c.loop-row.attributes c.copy_attributes.new.attributes
          c.loop-row.row w _
          (grind arith) (omega (arith, c.copy_attributes.auto.attributes)) c.loop-row.invariant.attributes
          (rw c.width-width.ensures.width c.copy_attributes.ensures);
    }
