use Rattle.ans_write.proofs.PutsLemmas.{Puts-then}
use Rattle.ans_why.proofs.why_text.put_cell.Goals as goal

pub returns : goal.returns
returns g c =
    Puts-then c.put.ensures (Puts-then (rw c.hex_byte.ensures at c.put-2.ensures)
    (Puts-then c.put-3.ensures (rw c.hex_byte-2.ensures at c.put-4.ensures)))
