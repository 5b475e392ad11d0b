use Rattle.ans_write.proofs.PutsLemmas.{Puts-then}
use Rattle.ans_table.proofs.columns.put_size.Goals as goal

pub returns : goal.returns
returns g c =
    Puts-then (rw c.width.ensures at c.put_number.ensures) (rw c.lines.ensures at c.put_number-2.ensures)
