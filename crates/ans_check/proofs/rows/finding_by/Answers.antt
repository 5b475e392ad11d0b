use Rattle.ans_verdict.proofs.VerdictLemmas.{content_within}
use Rattle.ans_check.proofs.rows.finding_by.Goals as goal

pub of-said-requires-clause-length : goal.of-said-requires-clause-length
of-said-requires-clause-length c =
    content_within c.args.file.now c.in-Refused.parts (rw c.in-Refused.is at c.requires.needs).0 c.requires.length

pub of-said-requires-in-Passes-clause-length : goal.of-said-requires-in-Passes-clause-length
of-said-requires-in-Passes-clause-length c =
    content_within c.args.file.now c.in-Passes.parts (rw c.in-Passes.is at c.requires.needs).0 c.requires.length
