use Rattle.ans_picture_laws.proofs.RedrawnTwice.{once_is_enough}
use Rattle.ans_picture_laws.proofs.redrawn_file_laws.redrawing_once_is_enough.Goals as goal

pub returns : goal.returns
returns c = once_is_enough
