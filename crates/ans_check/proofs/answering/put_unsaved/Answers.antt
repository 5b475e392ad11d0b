use Rattle.ans_write.proofs.PutsLemmas.{Puts-then}
use Rattle.ans_check.proofs.answering.put_unsaved.Goals as goal

pub returns : goal.returns
returns g c =
    Puts-then c.put_front.ensures
    (Puts-then c.put.ensures
    (Puts-then (rw (c.as_bytes.ensures.value, c.text.ensures) at c.put-2.ensures)
    (rw c.reason.ensures at c.put_save_reason.ensures)))
