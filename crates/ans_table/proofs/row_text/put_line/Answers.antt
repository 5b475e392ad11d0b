use Rattle.ans_write.proofs.PutsLemmas.{Puts-then}
use Rattle.ans_table.proofs.row_text.put_line.Goals as goal

pub returns : goal.returns
returns g c = Puts-then c.put.ensures c.put-2.ensures
