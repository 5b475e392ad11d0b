use Rattle.ans_write.proofs.PutsLemmas.{Puts-then}
use Rattle.ans_check.proofs.why_told.put_refused_lines.Goals as goal

pub returns : goal.returns
returns g c = Puts-then c.put_command_line.ensures c.put_more_line.ensures
