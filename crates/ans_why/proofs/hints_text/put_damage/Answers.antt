use Rattle.ans_write.proofs.PutsLemmas.{Puts-then}
use Rattle.ans_why.proofs.hints_text.put_damage.Goals as goal

pub returns : goal.returns
returns g c =
    Puts-then (rw c.lost_told.ensures at c.put_counted_line.ensures) (Puts-then c.put_counted_line-2.ensures
    (Puts-then c.put_counted_line-3.ensures (Puts-then c.put_counted_line-4.ensures
    (Puts-then c.put_counted_line-5.ensures c.put_mark_line.ensures))))
