use Rattle.std.proofs.Common.{◌∙◌, ap, inl, inr, length, refl}
use Rattle.std.specs.Prelude.{is_err}
use Rattle.ans_why.specs.WhyText.{why_text}
use Rattle.ans_write.specs.Tried.{has_failed}
use Rattle.ans_c.proofs.Verdicts.{lent_lacking}
use Rattle.ans_c.proofs.texts.ans_why_on.Goals as goal

pub returns-in_default-clause-handed : goal.returns-in_default-clause-handed
returns-in_default-clause-handed c = λ _.
    inr (
      refl,
      refl,
      lent_lacking c.args.file.now c.new.result (length c.args.rows.now) (length c.args.bytes.now)
          c.new.ensures.rows c.new.ensures.bytes (c.why_on.ensures.room.want (ap is_err c.in_default.is)),
    )

pub returns-clause-handed : goal.returns-clause-handed
returns-clause-handed c = λ _.
    inl (record {
      passed = c.is_pass.result;
      text = why_text c.in-Ok.why;
      reported = record {
        said = c.in-Ok.why;
        is_true = c.in-Ok.ensures.why;
        passed_is = c.is_pass.ensures;
        text_is = refl;
      };
      handed = c.hand_over.ensures.handed c.new-out.result (why_text c.in-Ok.why) c.new-out.ensures.empty
          (ap has_failed c.new-out.ensures.unchanged ∙ c.new-nowhere.ensures.failed) c.put_why.ensures;
    })
