use Rattle.ans_why.specs.WidthsText.{fitting_line}
use Rattle.ans_write.proofs.PutsLemmas.{Puts-next}
use Rattle.ans_why.proofs.widths_text.put_fitting_lines.Goals as goal

pub loop-width-preserved : goal.loop-width-preserved
loop-width-preserved g c =
    Puts-next (fitting_line c.args.lines) c.args.widths.now c.loop-width.width-index _ c.loop-width-test.true
    c.loop-width.invariant c.put_fitting_line.ensures
