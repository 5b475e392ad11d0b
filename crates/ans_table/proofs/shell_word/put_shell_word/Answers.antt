use Rattle.ans_write.proofs.PutsLemmas.{Puts-then}
use Rattle.ans_table.proofs.shell_word.put_shell_word.Goals as goal

pub returns : goal.returns
returns g c = Puts-then c.put_dash_front.ensures c.put_word.ensures
