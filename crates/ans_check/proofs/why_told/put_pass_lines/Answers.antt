use Rattle.ans_write.proofs.PutsLemmas.{Puts-then}
use Rattle.ans_check.proofs.why_told.put_pass_lines.Goals as goal

pub returns : goal.returns
returns g c = Puts-then (rw c.mends_of_pass.ensures at c.put_command_line.ensures) c.put_everywhere_line.ensures
