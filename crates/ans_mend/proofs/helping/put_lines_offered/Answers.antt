use Rattle.ans_write.proofs.PutsLemmas.{Puts-then}
use Rattle.ans_mend.proofs.helping.put_lines_offered.Goals as goal

pub returns : goal.returns
returns g c = Puts-then c.put_offered.ensures c.put_offered-2.ensures
