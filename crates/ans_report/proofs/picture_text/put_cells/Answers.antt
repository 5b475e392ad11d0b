use Rattle.ans_write.proofs.PutsLemmas.{Puts-then}
use Rattle.ans_report.proofs.picture_text.put_cells.Goals as goal

pub returns : goal.returns
returns g c = rw c.if-not-cells.false (Puts-then c.put.ensures c.put_rows.ensures.text)
