use Rattle.std.proofs.Common.{◌≡◌, ℕ, ◌+◌, ◌≤◌, List, length}
use Rattle.ans_why.specs.OtherFiles.{count_colours}
use Rattle.ans_why.proofs.other_files.count_colours.Given as goal

-- those before the rest are counted
pub record Counts (bytes rest : List ℕ) (count : ℕ) : Type 0 where
  pub all : count_colours bytes ≡ count + count_colours rest
  pub within : count + length rest ≤ length bytes

abbrev pub invariant-pairs : goal.invariant-pairs
invariant-pairs l = Counts l.fn.bytes l.rest l.count

abbrev pub decreases-pairs : goal.decreases-pairs
decreases-pairs l = length l.rest
