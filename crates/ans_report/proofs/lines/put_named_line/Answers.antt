use Rattle.ans_report.proofs.LineTexts.{named_line_is}
use Rattle.ans_write.proofs.PutsLemmas.{Puts-same, Puts-then}
use Rattle.ans_report.proofs.lines.put_named_line.Goals as goal

pub returns : goal.returns
returns g c =
    Puts-same (named_line_is c.args.name.now c.args.text.now)
    (Puts-then c.put.ensures (Puts-then c.put-2.ensures (Puts-then c.put-3.ensures c.put-4.ensures)))
