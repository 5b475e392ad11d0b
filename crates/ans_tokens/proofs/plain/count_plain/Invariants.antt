use Rattle.ans_tokens.proofs.PlainFront.{IsPlainFront}
use Rattle.std.proofs.Common.{◌-◌, length}
use Rattle.ans_tokens.proofs.plain.count_plain.Given as goal

-- the bytes so far are plain, and no code begins at them
abbrev pub invariant-loop-count : goal.invariant-loop-count
invariant-loop-count l = IsPlainFront l.bytes l.count

abbrev pub decreases-loop-count : goal.decreases-loop-count
decreases-loop-count l = length l.bytes - l.count
