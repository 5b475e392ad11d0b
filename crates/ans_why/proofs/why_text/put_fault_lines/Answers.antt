use Rattle.ans_write.proofs.PutsLemmas.{Puts-then}
use Rattle.ans_why.proofs.why_text.put_fault_lines.Goals as goal

pub returns : goal.returns
returns g c = Puts-then c.put.ensures c.put_blamed_line.ensures
