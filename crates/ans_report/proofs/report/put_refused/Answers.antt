use Rattle.std.proofs.Common.{◌≡◌, sym, ap, Some}
use Rattle.std.specs.Option.{option_copied}
use Rattle.ans_model.specs.Text.ReportText.{RefusedFor, report_text}
use Rattle.ans_report.specs.Headings.{heading_of}
use Rattle.ans_report.specs.ReportBytes.{refused_text}
use Rattle.ans_write.proofs.PutsLemmas.{Puts-same}
use Rattle.ans_report.proofs.report.put_refused.Goals as goal

pub returns-in-Some : goal.returns-in-Some
returns-in-Some g c =
    let f = c.args.fault.now in
    let text : refused_text (option_copied c.args.parts) c.args.start f
    ≡ report_text (heading_of c.in-Some.parts.now (Some c.args.start)) (RefusedFor f) =
    ap (λ o. refused_text (option_copied o) c.args.start f) c.in-Some.is in
    Puts-same (sym text) c.put_refused_content.ensures
