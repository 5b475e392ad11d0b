use Rattle.std.proofs.Common.{◌∙◌, ap, true, false, refl, sym, subst}
use Rattle.ans_model.specs.Text.ReportText.{refusal_text}
use Rattle.ans_report.specs.RecordLines.{parts_text}
use Rattle.ans_report.proofs.RecordLemmas.{parts_text_is}
use Rattle.ans_write.specs.Tried.{has_failed}
use Rattle.ans_report.specs.RecordReports.{ReportsSauce}
use Rattle.ans_c.proofs.texts.ans_record.Goals as goal

pub returns-in-Ok-clause-handed : goal.returns-in-Ok-clause-handed
returns-in-Ok-clause-handed c = λ _.
    let s = c.in-Ok.ensures.ok in
    record {
      passed = true;
      text = parts_text c.in-Ok.parts;
      reported = subst (ReportsSauce c.args.file.now true) (sym (parts_text_is s.apart c.in-Ok.parts s.shows))
          (record { apart = s.apart; accepts = s.accepts; text_is = refl });
      handed = c.hand_over.ensures.handed c.new-out.result (parts_text c.in-Ok.parts) c.new-out.ensures.empty
          (ap has_failed c.new-out.ensures.unchanged ∙ c.new-nowhere.ensures.failed) c.put_record.ensures;
    }

pub returns-in-Err-clause-handed : goal.returns-in-Err-clause-handed
returns-in-Err-clause-handed c = λ _. record {
  passed = false;
  text = refusal_text c.in-Err.fault;
  reported = record { fault = c.in-Err.fault; fault_is = c.in-Err.ensures.err; text_is = refl };
  handed = c.hand_over-in-Err.ensures.handed c.new-out.result (refusal_text c.in-Err.fault) c.new-out.ensures.empty
      (ap has_failed c.new-out.ensures.unchanged ∙ c.new-nowhere.ensures.failed) c.put_refusal.ensures;
}
