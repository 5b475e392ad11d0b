use Rattle.ans_check_laws.proofs.MendedOrNot.{mended_or_not}
use Rattle.ans_check_laws.proofs.mend_laws.mended_or_not.Goals as goal

pub returns : goal.returns
returns c mends file draft mended reason h = mended_or_not mends file draft mended h reason
