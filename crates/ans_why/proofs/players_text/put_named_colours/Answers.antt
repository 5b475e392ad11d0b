use Rattle.ans_write.proofs.PutsLemmas.{Puts-then}
use Rattle.ans_why.proofs.players_text.put_named_colours.Goals as goal

pub returns : goal.returns
returns g c = Puts-then c.put.ensures (Puts-then c.put_kind_line.ensures c.put_everywhere_line.ensures)
