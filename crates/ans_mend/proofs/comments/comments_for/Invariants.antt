use Rattle.std.proofs.Common.{◌≡◌, ◌+◌, ◌-◌, ◌≤◌, ◌++◌}
use Rattle.ans_mend.specs.Recounted.{blocks, blocks_from, comments_for}
use Rattle.ans_mend.proofs.CommentsCounted.{held}
use Rattle.ans_mend.proofs.comments.comments_for.Given as goal

-- the block that was found, if one was, comes before those of the numbers that are still to be tried
abbrev pub invariant-loop-index : goal.invariant-loop-index
invariant-loop-index l = record {
  rest : comments_for l.count (held l.only ++ blocks_from l.fn.front (l.index + 1) (255 - l.index))
      ≡ comments_for l.count (blocks l.fn.front);
  within : l.only ≤ l.index;
}
