use Rattle.ans_check_laws.proofs.MendedItself.{mending_keeps}
use Rattle.ans_check_laws.proofs.mend_laws.mending_keeps_the_picture.Goals as goal

pub returns : goal.returns
returns c = mending_keeps
