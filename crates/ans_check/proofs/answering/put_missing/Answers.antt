use Rattle.ans_write.proofs.PutsLemmas.{Puts-then}
use Rattle.ans_check.proofs.answering.put_missing.Goals as goal

pub returns-in-Ok : goal.returns-in-Ok
returns-in-Ok g c = rw c.in-Ok.is (Puts-then c.put.ensures c.put_meant.ensures)

pub returns-in_default : goal.returns-in_default
returns-in_default g c = rw c.in_default.is c.put.ensures
