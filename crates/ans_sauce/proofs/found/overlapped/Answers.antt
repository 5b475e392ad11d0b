use Rattle.ans_sauce.proofs.FoundLemmas.{far_before, near_before, none_before}
use Rattle.ans_sauce.proofs.found.overlapped.Goals as goal

pub returns-in_err-earlier : goal.returns-in_err-earlier
returns-in_err-earlier c =
    rw c.from_residual.ensures (none_before c.args.bytes.now c.args.place c.requires c.in_err-earlier.ensures)

pub returns-then-place-earlier-lt128 : goal.returns-then-place-earlier-lt128
returns-then-place-earlier-lt128 c =
    near_before c.args.bytes.now c.args.place c.requires c.in_ok-earlier.earlier c.in_ok-earlier.ensures
    c.if-place-earlier-lt128.true

pub returns-else-place-earlier-lt128 : goal.returns-else-place-earlier-lt128
returns-else-place-earlier-lt128 c =
    far_before c.args.bytes.now c.args.place c.requires c.in_ok-earlier.earlier c.in_ok-earlier.ensures
    c.if-place-earlier-lt128.false
