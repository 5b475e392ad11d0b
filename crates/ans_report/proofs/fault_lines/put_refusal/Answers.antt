use Rattle.ans_write.proofs.PutsLemmas.{Puts-then}
use Rattle.ans_report.proofs.fault_lines.put_refusal.Goals as goal

pub returns : goal.returns
returns g c = Puts-then c.put.ensures c.put_fault_line.ensures
