use Rattle.ans_write.proofs.PutsLemmas.{Puts-then}
use Rattle.ans_check.proofs.answering.put_save_reason.Goals as goal

pub returns-in-Some : goal.returns-in-Some
returns-in-Some g c =
    rw c.in-Some.is
    (Puts-then c.put.ensures (rw (c.as_bytes.ensures.value, c.text.ensures) at c.put-in-Some.ensures))
