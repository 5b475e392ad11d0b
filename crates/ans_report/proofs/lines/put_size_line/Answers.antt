use Rattle.std.proofs.Common.{decimal}
use Rattle.ans_sauce.specs.Parts.{width_of, lines_of}
use Rattle.ans_report.proofs.LineTexts.{size_line_is}
use Rattle.ans_write.proofs.PutsLemmas.{Puts-same, Puts-then}
use Rattle.ans_report.proofs.lines.put_size_line.Goals as goal

pub returns : goal.returns
returns g c =
    let parts = c.args.parts.now in
    Puts-same (size_line_is (decimal (width_of parts)) (decimal (lines_of parts)))
    (Puts-then c.put.ensures (Puts-then (rw c.width.ensures.width at c.put_decimal.ensures)
    (Puts-then c.put-2.ensures (Puts-then (rw c.lines.ensures.lines at c.put_decimal-2.ensures) c.put-3.ensures))))
