use Rattle.ans_pens.proofs.MoreLines.{one_line_more}
use Rattle.ans_play_laws.proofs.walk_laws.more_lines_never_hurt.Goals as goal

pub returns : goal.returns
returns c = one_line_more
