use Rattle.ans_sauce.proofs.FoundLemmas.{earlier_is_reached, last_is_reached, none_counts, reached_is_last}
use Rattle.ans_sauce.proofs.found.last_record_place.Goals as goal

pub returns-in_err-place : goal.returns-in_err-place
returns-in_err-place c = rw c.from_residual.ensures (none_counts c.args.bytes.now c.in_err-place.ensures)

pub overlapped-init : goal.overlapped-init
overlapped-init c = last_is_reached c.args.bytes.now c.in_ok-place.place c.in_ok-place.ensures

pub overlapped-preserved : goal.overlapped-preserved
overlapped-preserved c =
    earlier_is_reached c.args.bytes.now c.overlapped.place c.in-Some.earlier c.overlapped.invariant
    c.in-Some.ensures

pub returns : goal.returns
returns c =
    reached_is_last c.args.bytes.now c.overlapped.place c.overlapped.invariant c.in_default.ensures
