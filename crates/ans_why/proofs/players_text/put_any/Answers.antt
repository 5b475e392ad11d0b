use Rattle.ans_write.proofs.PutsLemmas.{Puts-then}
use Rattle.ans_why.proofs.players_text.put_any.Goals as goal

pub returns : goal.returns
returns g c = Puts-then c.put.ensures c.put_everywhere_line.ensures
