use Rattle.ans_check_laws.proofs.NamedItself.{naming_keeps}
use Rattle.ans_check_laws.proofs.mend_laws.naming_keeps_the_picture.Goals as goal

pub returns : goal.returns
returns c = naming_keeps c.cells_stay.ensures
