use Rattle.ans_laws.proofs.NeverScrolls.{clean_never_scrolls}
use Rattle.ans_laws.proofs.step_laws.clean_tokens_never_scroll.Goals as goal

pub returns : goal.returns
returns c = clean_never_scrolls
