use Rattle.ans_play.proofs.LeastClass.{least_by_parts}
use Rattle.ans_hints_tests.proofs.tests.kinds.needs_of.Goals as goal

pub returns : goal.returns
returns c = least_by_parts c.args.size c.args.content.now _ c.requires.good (record {
  screen = c.in_ok-is_refused.ensures;
  cursor = c.in_ok-is_refused-2.ensures;
  saved = c.in_ok-is_refused-3.ensures;
  colours = c.in_ok-is_refused-4.ensures;
  wrap = c.in_ok-is_refused-5.ensures;
})
