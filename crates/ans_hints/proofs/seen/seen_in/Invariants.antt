use Rattle.std.proofs.Common.{◌-◌, ◌≤◌, length}
use Rattle.ans_hints.proofs.SeenPieces.{Counts}
use Rattle.ans_hints.proofs.seen.seen_in.Given as goal

-- those of the pieces so far are counted
abbrev pub invariant-loop-at : goal.invariant-loop-at
invariant-loop-at l = record {
  within : l.at ≤ length l.run;
  counted : Counts l.run l.at l.seen;
}

abbrev pub decreases-loop-at : goal.decreases-loop-at
decreases-loop-at l = length l.run - l.at
