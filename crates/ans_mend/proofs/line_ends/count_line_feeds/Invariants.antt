use Rattle.std.proofs.Common.{◌≡◌, take}
use Rattle.ans_mend.specs.LineEnds.{line_feeds}
use Rattle.ans_mend.proofs.line_ends.count_line_feeds.Given as goal

-- they are those of the bytes so far
abbrev pub invariant-loop-byte : goal.invariant-loop-byte
invariant-loop-byte l = l.count ≡ line_feeds (take l.byte-index l.fn.bytes)
