use Rattle.ans_write.proofs.PutsLemmas.{Puts-then}
use Rattle.ans_check.proofs.why_told.put_told.Goals as goal

pub returns : goal.returns
returns g c = Puts-then c.put_why.ensures c.put_last_lines.ensures
