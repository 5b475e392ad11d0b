use Rattle.std.proofs.Common.{◌≡◌, ◌≤◌, ◌-◌, ◌++◌, length, take, drop}
use Rattle.ans_mend.specs.NamedColours.{through_numbers}
use Rattle.ans_mend.proofs.naming.length_through.Given as goal

-- the bytes so far, and those through the numbers that are left
abbrev pub invariant-bytes : goal.invariant-bytes
invariant-bytes l = record {
  within : l.index ≤ length l.text;
  through : through_numbers l.count l.text ≡ take l.index l.text ++ through_numbers l.left (drop l.index l.text);
}

abbrev pub decreases-bytes : goal.decreases-bytes
decreases-bytes l = length l.text - l.index
