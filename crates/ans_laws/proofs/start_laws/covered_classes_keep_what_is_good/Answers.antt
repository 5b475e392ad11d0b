use Rattle.ans_model.proofs.ClassLemmas.{covers_starts, covers_good}
use Rattle.ans_laws.proofs.start_laws.covered_classes_keep_what_is_good.Goals as goal

pub returns : goal.returns
returns c = record { starts = covers_starts; good = covers_good }
