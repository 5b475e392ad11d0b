use Rattle.ans_write.proofs.PutsLemmas.{Puts-then}
use Rattle.ans_check.proofs.answering.put_input_message.Goals as goal

pub returns : goal.returns
returns g c = Puts-then c.put_front.ensures (rw c.as_bytes.ensures.value at c.put.ensures)
