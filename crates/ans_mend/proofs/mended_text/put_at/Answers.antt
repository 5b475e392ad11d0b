use Rattle.ans_write.proofs.PutsLemmas.{Puts-then}
use Rattle.ans_mend.proofs.mended_text.put_at.Goals as goal

pub returns : goal.returns
returns g c = Puts-then (rw c.by_count.ensures at c.put.ensures) c.put_decimal.ensures
