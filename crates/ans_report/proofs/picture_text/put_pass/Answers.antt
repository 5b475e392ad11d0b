use Rattle.ans_write.proofs.PutsLemmas.{Puts-then}
use Rattle.ans_report.proofs.picture_text.put_pass.Goals as goal

pub returns-clause-text : goal.returns-clause-text
returns-clause-text g c =
    Puts-then c.put_heading.ensures (Puts-then c.put.ensures (Puts-then c.put_rows.ensures.text c.put_cells.ensures))
