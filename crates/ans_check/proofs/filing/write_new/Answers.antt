use Rattle.std.proofs.Common.{inr, refl}
use Rattle.ans_check.proofs.filing.write_new.Goals as goal

pub returns-in-Err-clause-written : goal.returns-in-Err-clause-written
returns-in-Err-clause-written g c = inr (c.in-Err.error, c.in-Err.ensures.unsaved, c.in-Err.ensures.unnoted, refl)
