use Rattle.std.proofs.Common.{refl}
use Rattle.ans_model.specs.Sequence.TokenKind.{Bell, Mode, Keys, Ask}
use Rattle.ans_laws.specs.StepLaws.{IdleChangesNothing}
use Rattle.ans_laws.proofs.step_laws.settings_change_one_part.Goals as goal

idle_changes_nothing : IdleChangesNothing
idle_changes_nothing z s Bell i = refl
idle_changes_nothing z s Mode i = refl
idle_changes_nothing z s Keys i = refl
idle_changes_nothing z s Ask i = refl
idle_changes_nothing z s _ i = absurd i

pub returns : goal.returns
returns c = record {
  saved = λ z s. refl;
  attribute = λ z s parameters. refl;
  wrap = λ z s on. refl;
  idle = idle_changes_nothing;
}
