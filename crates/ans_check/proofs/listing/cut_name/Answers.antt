use Rattle.std.proofs.Common.{sym}
use Rattle.ans_check.proofs.ListingLemmas.{if_none, no_zero, zero_cut}
use Rattle.ans_check.proofs.listing.cut_name.Goals as goal

pub returns-in_err-end-clause-none : goal.returns-in_err-end-clause-none
returns-in_err-end-clause-none c =
    if_none c.from_residual.result _ (no_zero c.args.bytes.now (sym c.in_err-end.ensures))

pub returns-clause-some : goal.returns-clause-some
returns-clause-some c =
    zero_cut c.args.bytes.now c.split_at.result.0.now c.split_at.result.1.now c.in_ok-end.end
    (sym c.in_ok-end.ensures) c.split_at.ensures.front c.split_at.ensures.back
