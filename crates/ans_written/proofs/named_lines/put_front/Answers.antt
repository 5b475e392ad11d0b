use Rattle.ans_write.proofs.PutsLemmas.{Puts-then}
use Rattle.ans_written.proofs.named_lines.put_front.Goals as goal

pub returns : goal.returns
returns g c = Puts-then c.put_name.ensures.puts c.put.ensures
