use Rattle.ans_write.proofs.PutsLemmas.{Puts-then}
use Rattle.ans_table.proofs.columns.put_field.Goals as goal

pub returns : goal.returns
returns g c = Puts-then c.put_escaped.ensures c.put.ensures
