use Rattle.std.proofs.Common.{subst, sym}
use Rattle.ans_report.specs.ReportBytes.{report_bytes}
use Rattle.ans_check.specs.CommandText.{ReportsChecked}
use Rattle.ans_check.proofs.ReportLemmas.{check_reported}
use Rattle.ans_check.proofs.ReportedLemmas.{is_put}
use Rattle.ans_check.proofs.pipeline.tell_check.Goals as goal

pub returns : goal.returns
returns g c =
    let text = report_bytes c.report_of.result in
    is_put c.of_verdict.result text
    (subst (λ checked. ReportsChecked c.args.file.now c.args.start c.args.cells checked text) (sym c.of_verdict.ensures)
    (check_reported c.args.file.now c.args.start c.args.cells c.in_ok-verdict.verdict c.report_of.result
    c.report_of.ensures c.in_ok-verdict.ensures.verdict c.in_ok-verdict.ensures.exact))
    c.put_report.ensures.text
