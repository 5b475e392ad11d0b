use Rattle.ans_write.proofs.PutsLemmas.{Puts-then}
use Rattle.ans_table.proofs.shell_word.put_quoted_word.Goals as goal

pub returns : goal.returns
returns g c = Puts-then c.put.ensures (Puts-then c.put_quoted_bytes.ensures c.put-2.ensures)
