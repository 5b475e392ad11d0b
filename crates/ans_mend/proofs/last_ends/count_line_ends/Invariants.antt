use Rattle.std.proofs.Common.{◌≡◌, ◌+◌, ◌≤◌, drop}
use Rattle.ans_mend.specs.LastEnds.{ends_after, line_ends}
use Rattle.ans_mend.proofs.last_ends.count_line_ends.Given as goal

-- those of the later bytes are still to be counted
abbrev pub invariant-loop-byte : goal.invariant-loop-byte
invariant-loop-byte l = record {
  count : l.count + ends_after l.last (drop l.byte-index l.bytes) ≡ line_ends l.bytes;
  within : l.count ≤ l.byte-index;
}
