use Rattle.std.proofs.Common.{◌≡◌, ap, Some}
use Rattle.ans_model.specs.Text.ReportText.{Passed, report_text}
use Rattle.ans_report.specs.Headings.{heading_of}
use Rattle.ans_report.specs.ReportBytes.{report_bytes}
use Rattle.ans_report.proofs.CellsTold.{tells_cells}
use Rattle.ans_report.proofs.report.put_report.Goals as goal

pub returns-in-Pass-clause-text : goal.returns-in-Pass-clause-text
returns-in-Pass-clause-text g c =
    let text : report_bytes c.args.r.now
    ≡ report_text (heading_of c.in-Pass.parts.now (Some c.in-Pass.start))
    (Passed c.in-Pass.picture.now c.in-Pass.cells) =
    ap report_bytes c.in-Pass.is in
    rw text c.put_pass.ensures.text

pub returns-in-Pass-clause-cells_back : goal.returns-in-Pass-clause-cells_back
returns-in-Pass-clause-cells_back g c = tells_cells c.args.r.now (rw c.in-Pass.is c.put_pass.ensures.whole)
