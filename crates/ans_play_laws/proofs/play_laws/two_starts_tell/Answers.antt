use Rattle.ans_play.proofs.TwoStarts.{cursor_between, same_where_agreed}
use Rattle.ans_play_laws.proofs.play_laws.two_starts_tell.Goals as goal

pub returns-clause-cursors : goal.returns-clause-cursors
returns-clause-cursors c z class tokens size prints clean = cursor_between z class size.some_columns tokens prints clean

pub returns-clause-cells : goal.returns-clause-cells
returns-clause-cells c z class tokens p size prints clean =
    same_where_agreed z class size.some_columns tokens prints clean p
