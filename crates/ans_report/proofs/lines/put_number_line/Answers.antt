use Rattle.std.proofs.Common.{decimal}
use Rattle.ans_report.proofs.LineTexts.{named_line_is}
use Rattle.ans_write.proofs.PutsLemmas.{Puts-same, Puts-then}
use Rattle.ans_report.proofs.lines.put_number_line.Goals as goal

pub returns : goal.returns
returns g c =
    Puts-same (named_line_is c.args.name.now (decimal c.args.number))
    (Puts-then c.put.ensures (Puts-then c.put-2.ensures (Puts-then c.put_decimal.ensures c.put-3.ensures)))
