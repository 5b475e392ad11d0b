use Rattle.ans_write.proofs.PutsLemmas.{Puts-then}
use Rattle.ans_why.proofs.hints_text.put_counted_words.Goals as goal

pub returns : goal.returns
returns g c =
    Puts-then c.put_decimal.ensures
    (Puts-then c.put.ensures
    (Puts-then (rw c.of.ensures at c.put-2.ensures)
    (Puts-then (rw c.of-2.ensures at c.put-3.ensures) c.put_decimal-2.ensures)))
