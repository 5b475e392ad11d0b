use Rattle.ans_play.proofs.LeastClass.{one_least, least_is_one, least_by_parts}
use Rattle.ans_play_laws.proofs.play_laws.one_least_class.Goals as goal

pub returns : goal.returns
returns c = record { exists = one_least; unique = least_is_one; found = least_by_parts }
