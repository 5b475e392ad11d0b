use Rattle.std.proofs.Common.{true, false, sym, subst}
use Rattle.ans_model.specs.Text.ReportText.{refusal_text}
use Rattle.ans_report.specs.RecordLines.{parts_text}
use Rattle.ans_report.proofs.RecordLemmas.{parts_text_is}
use Rattle.ans_report.specs.RecordReports.{ReportsSauce}
use Rattle.ans_check.proofs.ReportLemmas.{record_reported, sauce_reported}
use Rattle.ans_check.proofs.ReportedLemmas.{is_put}
use Rattle.ans_check.proofs.pipeline.tell_record.Goals as goal

pub returns-in-Ok : goal.returns-in-Ok
returns-in-Ok g c =
    let s = c.in-Ok.ensures.ok in
    is_put true (parts_text c.in-Ok.parts)
    (subst (ReportsSauce c.args.file.now true) (sym (parts_text_is s.apart c.in-Ok.parts s.shows))
    (sauce_reported c.args.file.now c.in-Ok.parts s))
    c.put_record.ensures

pub returns-in-Err : goal.returns-in-Err
returns-in-Err g c =
    is_put false (refusal_text c.in-Err.fault) (record_reported c.args.file.now c.in-Err.fault c.in-Err.ensures.err)
    c.put_refusal.ensures
