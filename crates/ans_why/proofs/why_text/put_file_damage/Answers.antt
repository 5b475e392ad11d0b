use Rattle.ans_write.proofs.PutsLemmas.{Puts-then}
use Rattle.ans_why.proofs.why_text.put_file_damage.Goals as goal

pub returns : goal.returns
returns g c = Puts-then c.put_damage.ensures (rw c.wide_told.ensures at c.put_counted_line.ensures)
