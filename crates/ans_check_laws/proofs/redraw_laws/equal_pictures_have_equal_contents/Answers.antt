use Rattle.ans_check_laws.proofs.RedrawnPictures.{contents_tell}
use Rattle.ans_check_laws.proofs.redraw_laws.equal_pictures_have_equal_contents.Goals as goal

pub returns : goal.returns
returns c = contents_tell
