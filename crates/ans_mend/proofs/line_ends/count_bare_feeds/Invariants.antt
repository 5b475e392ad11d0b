use Rattle.std.proofs.Common.{◌≡◌, ◌+◌, ◌≤◌, drop}
use Rattle.ans_mend.specs.LineEnds.{bare_feeds}
use Rattle.ans_mend.proofs.line_ends.count_bare_feeds.Given as goal

-- those of the later bytes are still to be counted
abbrev pub invariant-loop-byte : goal.invariant-loop-byte
invariant-loop-byte l = record {
  count : l.count + bare_feeds l.last (drop l.byte-index l.bytes) ≡ bare_feeds 0 l.bytes;
  within : l.count ≤ l.byte-index;
}
