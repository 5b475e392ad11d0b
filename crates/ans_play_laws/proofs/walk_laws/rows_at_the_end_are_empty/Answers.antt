use Rattle.ans_play_laws.proofs.EmptyRows.{empty_rows_hold_nothing, no_more_rows_are_empty}
use Rattle.ans_play_laws.proofs.walk_laws.rows_at_the_end_are_empty.Goals as goal

pub returns-clause-nothing : goal.returns-clause-nothing
returns-clause-nothing c = empty_rows_hold_nothing

pub returns-clause-no_more : goal.returns-clause-no_more
returns-clause-no_more c = no_more_rows_are_empty
