use Rattle.ans_check_laws.proofs.UnredrawnFiles.{only_length}
use Rattle.ans_check_laws.proofs.redraw_laws.only_length_stands_in_the_way.Goals as goal

pub returns : goal.returns
returns c = only_length
