use Rattle.std.proofs.Common.{refl, subst, inl, inr, ap, ◌∙◌}
use Rattle.ans_model.specs.Text.Words.{texts_of}
use Rattle.ans_check.specs.SystemInput.{AnswersOnSystem}
use Rattle.ans_check.specs.declared.exit_status.Ending.TheVariants.{UnreadableWords}
use Rattle.ans_check.proofs.system.answer_texts.Goals as goal

pub returns-in_default : goal.returns-in_default
returns-in_default g c = (
  UnreadableWords,
  inr (refl, refl, c.say.ensures),
  c.status.ensures,
)

pub returns : goal.returns
returns g c = subst (λ words. AnswersOnSystem g.W.Write.contents g.E.Write.contents c.args.is_terminal words
    c.args.output.now c.answer.new.output c.args.errors.now c.answer.new.errors c.status-2.result)
    (ap texts_of c.as_slice.ensures.value ∙ c.in-Ok.ensures)
    (c.answer.result, inl (c.new-disk.result, c.answer.new.disk, c.answer.ensures.ends), c.status-2.ensures)
