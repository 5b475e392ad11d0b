use Rattle.ans_players.proofs.LeastSame.{least_same_is_found}
use Rattle.ans_players_laws.proofs.OneLeastSame.{least_same_exists, least_same_is_one}
use Rattle.ans_players_laws.proofs.laws.one_least_class_of_players.Goals as goal

pub returns : goal.returns
returns c = record { exists = least_same_exists; unique = least_same_is_one; found = least_same_is_found }
