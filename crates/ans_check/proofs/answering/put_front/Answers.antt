use Rattle.ans_write.proofs.PutsLemmas.{Puts-then}
use Rattle.ans_check.proofs.answering.put_front.Goals as goal

pub returns-in-Some : goal.returns-in-Some
returns-in-Some g c =
    rw c.in-Some.is (Puts-then (rw c.as_bytes.ensures.value at c.put_name.ensures.puts) c.put.ensures)
