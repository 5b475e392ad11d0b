use Rattle.ans_write.proofs.PutsLemmas.{Puts-then}
use Rattle.ans_check.proofs.mend_file.put_file.Goals as goal

pub returns : goal.returns
returns g c = Puts-then c.put_front.ensures c.put.ensures
