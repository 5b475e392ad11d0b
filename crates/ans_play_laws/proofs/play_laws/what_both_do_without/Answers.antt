use Rattle.ans_play.proofs.GoodFromBoth.{good_from_both}
use Rattle.ans_play_laws.proofs.play_laws.what_both_do_without.Goals as goal

pub returns : goal.returns
returns c = good_from_both
