use Rattle.std.proofs.Common.{subst, sym}
use Rattle.ans_report.specs.NeedsBytes.{needs_bytes}
use Rattle.ans_check.specs.CommandText.{ReportsNeeds}
use Rattle.ans_check.proofs.ReportLemmas.{needs_reported}
use Rattle.ans_check.proofs.ReportedLemmas.{is_put}
use Rattle.ans_check.proofs.pipeline.tell_needs.Goals as goal

pub returns : goal.returns
returns g c =
    let found = c.in_ok-found.found in
    is_put c.is_pass.result (needs_bytes found)
    (subst (λ passed. ReportsNeeds c.args.file.now passed (needs_bytes found)) (sym c.is_pass.ensures)
    (needs_reported c.args.file.now found c.in_ok-found.ensures.needs c.in_ok-found.ensures.exact))
    c.put_needs.ensures
