use Rattle.ans_laws.proofs.ClassStarts.{known_parts_together}
use Rattle.ans_laws.proofs.start_laws.parts_are_known_together.Goals as goal

pub returns : goal.returns
returns c = known_parts_together
