use Rattle.std.proofs.Common.{◌∙◌, ap, inl, inr, refl}
use Rattle.ans_write.specs.Tried.{has_failed}
use Rattle.ans_c.specs.Numbers.{mends_of}
use Rattle.ans_c.specs.Told.{mending_text}
use Rattle.ans_c.proofs.mending.ans_mend_on.Goals as goal

pub returns-clause-handed : goal.returns-clause-handed
returns-clause-handed c = λ _ _.
    inl (record {
      passed = c.is_ok.result;
      text = mending_text (mends_of c.args.classes c.args.add_record c.args.columns c.args.lines) c.in-Some.answer;
      reported = record {
        answer = c.in-Some.answer;
        tells = rw c.mends_of-mends.ensures at c.in-Some.ensures.tells;
        is_mended_is = c.is_ok.ensures.value;
        text_is = refl;
      };
      handed = c.hand_over.ensures.handed c.new-out.result _ c.new-out.ensures.empty
          (ap has_failed c.new-out.ensures.unchanged ∙ c.new-nowhere.ensures.failed)
          (rw c.mends_of-mends.ensures at c.put_answer.ensures);
    })

pub returns-in_default-clause-handed : goal.returns-in_default-clause-handed
returns-in_default-clause-handed c = λ _ _.
    inr (
      refl,
      refl,
      refl,
      rw (c.mends_of-mends.ensures, c.new-screens.ensures.rows, c.new-screens.ensures.bytes)
          at (c.in_default.ensures.room refl),
    )
