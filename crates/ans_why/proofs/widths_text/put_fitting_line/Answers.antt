use Rattle.std.proofs.Common.{decimal, sym, ap, ◌∙◌}
use Rattle.ans_write.proofs.PutsLemmas.{Puts-same, Puts-then}
use Rattle.ans_why.specs.WidthsText.{fitting_line, lines_words}
use Rattle.ans_why.proofs.HintLines.{fitting_line_is}
use Rattle.ans_why.proofs.widths_text.put_fitting_line.Goals as goal

pub returns : goal.returns
returns g c =
    Puts-same (fitting_line_is (decimal c.in-Some.width) (decimal c.args.lines) (lines_words c.args.lines)
    ∙ sym (ap (fitting_line c.args.lines) c.in-Some.is))
    (Puts-then c.put.ensures (Puts-then c.put_decimal.ensures (Puts-then c.put-2.ensures
    (Puts-then c.put_decimal-2.ensures (Puts-then (rw c.lines_words.ensures at c.put-3.ensures)
    (Puts-then c.put_decimal-3.ensures c.put-4.ensures))))))
