use Rattle.ans_names_laws.proofs.NothingNamed.{nothing_to_name}
use Rattle.ans_names_laws.proofs.nothing_is_named_where_all_is.Goals as goal

pub returns : goal.returns
returns c = nothing_to_name
