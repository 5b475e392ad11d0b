use Rattle.std.proofs.Common.{◌≡◌, length}
use Rattle.ans_why.specs.Known.{after_older_record}
use Rattle.ans_why.proofs.known_bytes.after_older_record.Given as goal

abbrev pub invariant-bytes : goal.invariant-bytes
invariant-bytes l = after_older_record l.fn.bytes ≡ after_older_record l.rest

abbrev pub decreases-bytes : goal.decreases-bytes
decreases-bytes l = length l.rest
