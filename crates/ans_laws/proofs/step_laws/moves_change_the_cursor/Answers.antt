use Rattle.ans_laws.proofs.MoveLemmas.{moves_change_cursor}
use Rattle.ans_laws.proofs.step_laws.moves_change_the_cursor.Goals as goal

pub returns : goal.returns
returns c = moves_change_cursor
