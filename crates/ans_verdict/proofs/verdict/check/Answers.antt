use Rattle.ans_model.proofs.FirstRefusal.{refusal_within_file}
use Rattle.ans_verdict.proofs.VerdictLemmas.{passes, refuses, refused_not_good, record_not_good, record_certain}
use Rattle.ans_verdict.proofs.VerdictLemmas.{no_refusal}
use Rattle.ans_verdict.proofs.verdict.check.Goals as goal

pub returns-in-Err-clause-exact : goal.returns-in-Err-clause-exact
returns-in-Err-clause-exact g c good =
    absurd (record_not_good c.args.file.now c.args.start c.in-Err.fault c.in-Err.ensures.err good)

pub returns-in-Err-clause-certain : goal.returns-in-Err-clause-certain
returns-in-Err-clause-certain g c cleared = record_certain c.args.file.now c.in-Err.fault c.in-Err.ensures.err

pub returns-in-Err-clause-offset : goal.returns-in-Err-clause-offset
returns-in-Err-clause-offset g c = refusal_within_file c.args.file.now c.in-Err.fault c.in-Err.ensures.err

pub returns-in_err-end-clause-memory : goal.returns-in_err-end-clause-memory
returns-in_err-end-clause-memory g c some = absurd (no_refusal c.args.file.now c.in-Ok.parts c.in-Ok.ensures.ok some)

pub returns-in-Ok-end-clause-verdict : goal.returns-in-Ok-end-clause-verdict
returns-in-Ok-end-clause-verdict g c =
    passes c.args.file.now c.args.start c.in-Ok.parts c.in-Ok.ensures.ok c.in-Ok-end.picture
    (rw c.in-Ok-end.is at c.in_ok-end.ensures.good)

pub returns-in-Err-end-clause-verdict : goal.returns-in-Err-end-clause-verdict
returns-in-Err-end-clause-verdict g c =
    refuses c.args.file.now c.args.start c.in-Ok.parts c.in-Ok.ensures.ok c.in-Err-end.fault
    (rw c.in-Err-end.is at c.in_ok-end.ensures.refused)

pub returns-in-Err-end-clause-exact : goal.returns-in-Err-end-clause-exact
returns-in-Err-end-clause-exact g c good =
    let refused = refuses c.args.file.now c.args.start c.in-Ok.parts c.in-Ok.ensures.ok c.in-Err-end.fault
    (rw c.in-Err-end.is at c.in_ok-end.ensures.refused) in
    absurd (refused_not_good c.args.file.now c.args.start refused.0 c.in-Err-end.fault refused.2 good)
