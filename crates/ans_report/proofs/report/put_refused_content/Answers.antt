use Rattle.ans_write.proofs.PutsLemmas.{Puts-then}
use Rattle.ans_report.proofs.report.put_refused_content.Goals as goal

pub returns : goal.returns
returns g c = Puts-then c.put_heading.ensures c.put_refusal.ensures
