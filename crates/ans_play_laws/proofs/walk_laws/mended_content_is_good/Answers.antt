use Rattle.ans_kinds.proofs.Mended.{makes_good}
use Rattle.ans_play_laws.proofs.walk_laws.mended_content_is_good.Goals as goal

pub returns : goal.returns
returns c = makes_good
