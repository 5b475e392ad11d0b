use Rattle.std.proofs.Common.{◌≡◌, drop}
use Rattle.ans_mend.specs.LineEnds.{first_bare}
use Rattle.ans_mend.proofs.line_ends.first_bare_feed.Given as goal

-- the first is still to come
abbrev pub invariant-loop-index : goal.invariant-loop-index
invariant-loop-index l = first_bare l.last l.index (drop l.index l.fn.bytes) ≡ first_bare 0 0 l.fn.bytes
