use Rattle.ans_play_laws.proofs.LastPrint.{counts_before_last_print}
use Rattle.ans_play_laws.proofs.walk_laws.rows_are_counted_up_to_the_last_print.Goals as goal

pub returns : goal.returns
returns c = counts_before_last_print
