use Rattle.std.proofs.Common.{◌≡◌, ◌≤◌, length, take}
use Rattle.ans_mend.specs.NamedColours.{count_to_zero}
use Rattle.ans_mend.proofs.naming.count_to_zero.Given as goal

-- no 0 stands behind the first ones
abbrev pub invariant-numbers : goal.invariant-numbers
invariant-numbers l = record {
  within : l.count ≤ length l.numbers;
  same : count_to_zero (take l.count l.numbers) ≡ count_to_zero l.numbers;
}

abbrev pub decreases-numbers : goal.decreases-numbers
decreases-numbers l = l.count
