use Rattle.ans_check_laws.proofs.RedrawnPictures.{redrawing_keeps}
use Rattle.ans_check_laws.proofs.redraw_laws.redrawing_keeps_the_picture.Goals as goal

pub returns : goal.returns
returns c = redrawing_keeps
