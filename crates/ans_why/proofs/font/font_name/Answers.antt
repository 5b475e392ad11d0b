use Rattle.std.proofs.Common.{◌∙◌, sym, arith}
use Rattle.ans_why.proofs.FontNames.{front_is_whole, no_front_is_whole}
use Rattle.ans_why.proofs.font.font_name.Goals as goal
use Rattle.ans_why.proofs.font.font_name.Goals.{then-loop-end-test+else-field-end-eq32, else-loop-end-test}

pub returns : goal.returns
returns c =
    elim c.loop-end-test.branch [
      | then-loop-end-test+else-field-end-eq32 w ↦
          sym (front_is_whole c.args.field.now c.loop-end.end w.loop-end-test.true c.loop-end.invariant.0
          w.if-field-end-eq32.false) ∙ c.loop-end.invariant.1
      | else-loop-end-test w ↦
          sym (no_front_is_whole c.args.field.now c.loop-end.end (omega (arith, w.loop-end-test.false)))
          ∙ c.loop-end.invariant.1
    ]
