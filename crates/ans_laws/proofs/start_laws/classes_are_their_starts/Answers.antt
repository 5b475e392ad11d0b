use Rattle.ans_laws.proofs.ClassStarts.{none_known_is_every, all_known_is_one}
use Rattle.ans_laws.proofs.start_laws.classes_are_their_starts.Goals as goal

pub returns : goal.returns
returns c = record { any = none_known_is_every; cleared = all_known_is_one }
