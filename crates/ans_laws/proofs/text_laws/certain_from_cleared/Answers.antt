use Rattle.ans_model.proofs.OneAnswer.{first_is_certain, last_is_certain}
use Rattle.ans_laws.proofs.text_laws.certain_from_cleared.Goals as goal

pub returns : goal.returns
returns c = record { first = first_is_certain; last = last_is_certain }
