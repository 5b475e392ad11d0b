use Rattle.std.proofs.Common.{◌≡◌, length}
use Rattle.ans_mend.specs.NewRecord.{holds_sauce}
use Rattle.ans_mend.proofs.new_record.holds_sauce.Given as goal

abbrev pub invariant-bytes : goal.invariant-bytes
invariant-bytes l = holds_sauce l.fn.bytes ≡ holds_sauce l.rest

abbrev pub decreases-bytes : goal.decreases-bytes
decreases-bytes l = length l.rest
