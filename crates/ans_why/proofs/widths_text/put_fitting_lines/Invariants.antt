use Rattle.std.proofs.Common.{take}
use Rattle.ans_why.specs.WidthsText.{fitting_lines}
use Rattle.ans_write.specs.Puts.{Puts}
use Rattle.ans_why.proofs.widths_text.put_fitting_lines.Given as goal

abbrev pub invariant-loop-width : goal.invariant-loop-width
invariant-loop-width g l =
    Puts g.W.Write.contents l.fn.out l.out (fitting_lines l.lines (take l.width-index l.widths))
