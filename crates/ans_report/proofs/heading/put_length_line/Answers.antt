use Rattle.std.proofs.Common.{decimal}
use Rattle.ans_report.proofs.LineTexts.{length_line_is}
use Rattle.ans_write.proofs.PutsLemmas.{Puts-same, Puts-then}
use Rattle.ans_report.proofs.heading.put_length_line.Goals as goal

pub returns : goal.returns
returns g c =
    Puts-same (length_line_is (decimal c.args.length))
    (Puts-then c.put.ensures (Puts-then c.put_decimal.ensures c.put-2.ensures))
