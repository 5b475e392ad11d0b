use Rattle.std.proofs.Common.{◌≡◌, ◌≤◌, drop, length, true}
use Rattle.std.specs.List.{list_all}
use Rattle.ans_mend.specs.LastEnds.{is_line_end}
use Rattle.ans_mend.proofs.last_ends.count_before_ends.Given as goal

abbrev pub invariant-ends : goal.invariant-ends
invariant-ends l = record {
  within : l.count ≤ length l.bytes;
  ends : list_all is_line_end (drop l.count l.bytes) ≡ true;
}

abbrev pub decreases-ends : goal.decreases-ends
decreases-ends l = l.count
