use Rattle.ans_play_laws.proofs.TallerScreens.{taller_shows_the_same}
use Rattle.ans_play_laws.proofs.walk_laws.taller_screens_show_the_same.Goals as goal

pub returns : goal.returns
returns c = taller_shows_the_same
