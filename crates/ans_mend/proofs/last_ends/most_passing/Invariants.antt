use Rattle.std.proofs.Common.{ℕ, ◌+◌, ◌-◌, ◌<◌, ◌≤◌, length}
use Rattle.ans_mend.specs.LastEnds.{FrontPasses}
use Rattle.ans_mend.proofs.last_ends.most_passing.Given as goal

-- the first `passing` bytes pass, and from `refused` on as many do not
abbrev pub invariant-halves : goal.invariant-halves
invariant-halves l = record {
  passes : FrontPasses l.size l.bytes l.passing;
  refuses : (more : ℕ) → l.refused ≤ more → more ≤ length l.bytes → ¬ FrontPasses l.size l.bytes more;
  from : l.enough ≤ l.passing;
  order : l.passing < l.refused;
  most : l.refused ≤ length l.bytes + 1;
}

abbrev pub decreases-halves : goal.decreases-halves
decreases-halves l = l.refused - l.passing
