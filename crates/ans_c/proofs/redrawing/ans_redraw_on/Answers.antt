use Rattle.std.proofs.Common.{◌∙◌, ap, inl, length, refl}
use Rattle.ans_write.specs.Tried.{has_failed}
use Rattle.ans_c.specs.Told.{redrawing_text}
use Rattle.ans_c.proofs.Redrawings.{tells_redrawn}
use Rattle.ans_c.proofs.redrawing.ans_redraw_on.Goals as goal

pub returns-clause-handed : goal.returns-clause-handed
returns-clause-handed c = λ _.
    inl (
      c.if-room-whole.false,
      record {
        passed = c.is_ok.result;
        text = redrawing_text c.in-Some.answer;
        reported = record {
          answer = c.in-Some.answer;
          tells = tells_redrawn c.args.file.now (length c.args.redrawn.now) c.redraw_in.new.array c.in-Some.answer
              c.whole_of-whole.result c.whole_of-whole.ensures c.in-Some.ensures.holds c.if-room-whole.false;
          is_redrawn_is = c.is_ok.ensures.value;
          text_is = refl;
        };
        handed = c.hand_over.ensures.handed c.new-out.result _ c.new-out.ensures.empty
            (ap has_failed c.new-out.ensures.unchanged ∙ c.new-nowhere.ensures.failed) c.put_answer.ensures;
      },
    )
