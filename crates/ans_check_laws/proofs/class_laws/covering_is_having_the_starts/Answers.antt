use Rattle.ans_check_laws.proofs.Covering.{covers_starts_exactly}
use Rattle.ans_check_laws.proofs.class_laws.covering_is_having_the_starts.Goals as goal

pub returns : goal.returns
returns c = covers_starts_exactly
