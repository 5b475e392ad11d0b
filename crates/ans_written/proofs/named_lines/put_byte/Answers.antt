use Rattle.ans_write.proofs.PutsLemmas.{Puts-then}
use Rattle.ans_written.proofs.named_lines.put_byte.Goals as goal

pub returns : goal.returns
returns g c = Puts-then c.put_start.ensures c.put.ensures
