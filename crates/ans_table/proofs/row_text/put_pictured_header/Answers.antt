use Rattle.std.proofs.Common.{refl}
use Rattle.ans_write.proofs.PutsLemmas.{Puts-same, Puts-then}
use Rattle.ans_table.proofs.row_text.put_pictured_header.Goals as goal

pub returns : goal.returns
returns g c = Puts-same refl (Puts-then c.put.ensures c.put-2.ensures)
