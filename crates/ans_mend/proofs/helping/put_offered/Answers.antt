use Rattle.ans_write.proofs.PutsLemmas.{Puts-then}
use Rattle.ans_mend.proofs.helping.put_offered.Goals as goal

pub returns-then-is_offered : goal.returns-then-is_offered
returns-then-is_offered g c = rw c.if-is_offered.true (Puts-then c.put.ensures c.put-then-is_offered.ensures)
