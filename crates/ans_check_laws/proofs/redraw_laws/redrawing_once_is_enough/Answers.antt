use Rattle.ans_check_laws.proofs.RedrawnAgain.{always_again, redrawing_twice}
use Rattle.ans_check_laws.proofs.redraw_laws.redrawing_once_is_enough.Goals as goal

pub returns-clause-same : goal.returns-clause-same
returns-clause-same c = redrawing_twice

pub returns-clause-always : goal.returns-clause-always
returns-clause-always c = always_again
