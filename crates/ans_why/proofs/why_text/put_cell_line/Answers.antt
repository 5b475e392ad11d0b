use Rattle.ans_write.proofs.PutsLemmas.{Puts-same, Puts-then}
use Rattle.ans_why.specs.WhyText.{cell_text}
use Rattle.ans_report.proofs.LineTexts.{named_line_is}
use Rattle.ans_why.proofs.why_text.put_cell_line.Goals as goal

pub returns : goal.returns
returns g c =
    Puts-same (named_line_is c.args.name.now (cell_text c.args.cell))
    (Puts-then c.put.ensures (Puts-then c.put-2.ensures (Puts-then c.put_cell.ensures c.put-3.ensures)))
