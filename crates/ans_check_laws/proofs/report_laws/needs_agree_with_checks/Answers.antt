use Rattle.ans_check_laws.proofs.NeedsAndChecks.{good_where_covered, never_good, never_passes, passes_where_covered}
use Rattle.ans_check_laws.proofs.report_laws.needs_agree_with_checks.Goals as goal

pub returns-clause-good : goal.returns-clause-good
returns-clause-good c = good_where_covered

pub returns-clause-passes : goal.returns-clause-passes
returns-clause-passes c = passes_where_covered

pub returns-clause-never_good : goal.returns-clause-never_good
returns-clause-never_good c = never_good

pub returns-clause-never_passes : goal.returns-clause-never_passes
returns-clause-never_passes c = never_passes
