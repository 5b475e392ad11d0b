use Rattle.ans_model.proofs.WellFormed.{well_formed_after_step}
use Rattle.ans_laws.proofs.step_laws.steps_are_well_formed.Goals as goal

pub returns : goal.returns
returns c = λ z s t size byte h. well_formed_after_step z s t byte size.some_columns h
