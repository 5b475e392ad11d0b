use Rattle.ans_laws.proofs.StepChanges.{line_feed_moves_down, line_feed_scrolls}
use Rattle.ans_laws.proofs.step_laws.line_feeds_go_down.Goals as goal

pub returns : goal.returns
returns c = record { down = line_feed_moves_down; scrolls = line_feed_scrolls }
