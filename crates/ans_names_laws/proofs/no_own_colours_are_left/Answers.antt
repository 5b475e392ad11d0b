use Rattle.ans_names_laws.proofs.NamedReading.{none_own_is_left}
use Rattle.ans_names_laws.proofs.no_own_colours_are_left.Goals as goal

pub returns : goal.returns
returns c = none_own_is_left
