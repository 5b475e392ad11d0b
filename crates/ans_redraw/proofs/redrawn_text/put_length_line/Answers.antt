use Rattle.ans_write.proofs.PutsLemmas.{Puts-then}
use Rattle.ans_redraw.proofs.redrawn_text.put_length_line.Goals as goal

pub returns : goal.returns
returns g c =
    Puts-then c.put.ensures
    (Puts-then (rw c.from.ensures at c.put_decimal.ensures)
    (Puts-then c.put-2.ensures (Puts-then (rw c.from-2.ensures at c.put_decimal-2.ensures) c.put-3.ensures)))
