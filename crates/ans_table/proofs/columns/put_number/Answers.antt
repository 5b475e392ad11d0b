use Rattle.ans_write.proofs.PutsLemmas.{Puts-then}
use Rattle.ans_table.proofs.columns.put_number.Goals as goal

pub returns : goal.returns
returns g c = Puts-then c.put_decimal.ensures c.put.ensures
