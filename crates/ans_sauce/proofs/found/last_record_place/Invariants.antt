use Rattle.ans_sauce.proofs.FoundLemmas.{IsReached}
use Rattle.ans_sauce.proofs.found.last_record_place.Given as goal

abbrev pub invariant-overlapped : goal.invariant-overlapped
invariant-overlapped l = IsReached l.bytes l.place

abbrev pub decreases-overlapped : goal.decreases-overlapped
decreases-overlapped l = l.place
