use Rattle.ans_laws.proofs.NeverScrolls.{good_never_scrolls}
use Rattle.ans_laws.proofs.step_laws.good_content_never_scrolls.Goals as goal

pub returns : goal.returns
returns c = good_never_scrolls
