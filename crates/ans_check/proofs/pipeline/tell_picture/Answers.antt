use Rattle.std.proofs.Common.{◌≡◌, ◌∙◌, true, false, not, ap, subst, sym}
use Rattle.std.specs.Prelude.{is_some}
use Rattle.ans_report.specs.ReportBytes.{report_bytes}
use Rattle.ans_sauce.specs.Parts.{record_of}
use Rattle.ans_check.specs.CommandText.{ReportsShow, shown_text}
use Rattle.ans_verdict.specs.FileVerdict.{fault_of}
use Rattle.ans_check.proofs.ReportLemmas.{picture_reported, refused_reported}
use Rattle.ans_check.proofs.ReportedLemmas.{is_put}
use Rattle.ans_check.proofs.pipeline.tell_picture.Goals.{in-Pass, in-Refused}
use Rattle.ans_check.proofs.pipeline.tell_picture.Goals as goal

pub returns : goal.returns
returns g c = elim c.match-verdict.branch [
  | in-Pass w ↦
      let text = shown_text c.args.form (record_of w.in-Pass.parts) w.in-Pass.picture in
      let passed : c.is_pass.result ≡ true =
      c.is_pass.ensures ∙ ap (λ v. not (is_some (fault_of v))) w.in-Pass.is in
      rw w.out-is
      (is_put c.is_pass.result text
      (subst (λ b. ReportsShow c.args.file.now c.args.start c.args.form b text) (sym passed)
      (picture_reported c.args.file.now c.args.start c.args.form w.in-Pass.parts w.in-Pass.picture
      (rw w.in-Pass.is at c.in_ok-verdict.ensures.verdict)))
      w.put_picture.ensures)
  | in-Refused w ↦
      let text = report_bytes w.report_of.result in
      let refused : c.is_pass.result ≡ false =
      c.is_pass.ensures ∙ ap (λ v. not (is_some (fault_of v))) w.in-Refused.is in
      rw w.out-is
      (is_put c.is_pass.result text
      (subst (λ b. ReportsShow c.args.file.now c.args.start c.args.form b text) (sym refused)
      (refused_reported c.args.file.now c.args.start c.in_ok-verdict.verdict _ _ w.report_of.result w.in-Refused.is
      w.report_of.ensures c.in_ok-verdict.ensures.verdict c.in_ok-verdict.ensures.exact))
      w.put_report.ensures.text)
]
