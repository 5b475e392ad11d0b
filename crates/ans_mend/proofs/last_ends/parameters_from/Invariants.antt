use Rattle.std.proofs.Common.{◌≡◌, ◌<◌, ◌≤◌, ℕ, true}
use Rattle.std.specs.Prelude.{slice_index}
use Rattle.ans_mend.specs.LastEnds.{is_parameter}
use Rattle.ans_mend.proofs.last_ends.parameters_from.Given as goal

abbrev pub invariant-parameters : goal.invariant-parameters
invariant-parameters l = record {
  within : l.start ≤ l.end;
  parameters : (at : ℕ) → l.start ≤ at → at < l.end → is_parameter (slice_index l.bytes at) ≡ true;
}

abbrev pub decreases-parameters : goal.decreases-parameters
decreases-parameters l = l.start
