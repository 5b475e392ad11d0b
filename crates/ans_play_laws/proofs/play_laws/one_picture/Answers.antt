use Rattle.ans_play_laws.proofs.OneEnd.{one_picture}
use Rattle.ans_play_laws.proofs.play_laws.one_picture.Goals as goal

pub returns : goal.returns
returns c = one_picture
