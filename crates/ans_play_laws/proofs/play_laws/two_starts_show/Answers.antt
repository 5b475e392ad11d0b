use Rattle.ans_play.proofs.TwoStarts.{first_shown, last_shown}
use Rattle.ans_play_laws.proofs.play_laws.two_starts_show.Goals as goal

pub returns-clause-first : goal.returns-clause-first
returns-clause-first c = first_shown

pub returns-clause-last : goal.returns-clause-last
returns-clause-last c = last_shown
