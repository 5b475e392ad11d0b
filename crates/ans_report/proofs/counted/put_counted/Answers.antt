use Rattle.ans_write.proofs.PutsLemmas.{Puts-then}
use Rattle.ans_report.proofs.counted.put_counted.Goals as goal

pub returns : goal.returns
returns g c =
    Puts-then c.put_decimal.ensures
    (Puts-then c.put.ensures (Puts-then c.put-2.ensures (rw c.plural.ensures at c.put-3.ensures)))
