use Rattle.ans_write.proofs.PutsLemmas.{Puts-then}
use Rattle.ans_table.proofs.name_text.put_byte_escape.Goals as goal

pub returns : goal.returns
returns g c = Puts-then c.put.ensures (rw c.hex_byte.ensures at c.put-2.ensures)
