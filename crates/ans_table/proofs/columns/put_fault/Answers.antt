use Rattle.ans_write.proofs.PutsLemmas.{Puts-then}
use Rattle.ans_table.proofs.columns.put_fault.Goals as goal

pub returns : goal.returns
returns g c =
    Puts-then c.put.ensures (Puts-then (rw c.number.ensures at c.put_number.ensures) c.put_number-2.ensures)
