use Rattle.ans_write.proofs.PutsLemmas.{Puts-then}
use Rattle.ans_mend.proofs.helping.put_torn_help.Goals as goal

pub returns : goal.returns
returns g c =
    Puts-then c.put.ensures
    (Puts-then c.put_offered.ensures
    (Puts-then c.put_offered-2.ensures
    (Puts-then c.put_offered-3.ensures
    (Puts-then c.put-2.ensures (Puts-then (rw c.width_offered.ensures at c.put-3.ensures) c.put-4.ensures)))))
