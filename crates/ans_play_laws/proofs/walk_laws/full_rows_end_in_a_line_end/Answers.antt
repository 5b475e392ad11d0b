use Rattle.ans_play_laws.proofs.FullRows.{line_feed_ends_full_row}
use Rattle.ans_play_laws.proofs.walk_laws.full_rows_end_in_a_line_end.Goals as goal

pub returns : goal.returns
returns c = line_feed_ends_full_row
