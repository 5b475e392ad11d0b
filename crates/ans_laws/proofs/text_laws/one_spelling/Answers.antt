use Rattle.ans_model.proofs.Spelling.{one_spelling_in_front}
use Rattle.ans_laws.proofs.text_laws.one_spelling.Goals as goal

pub returns : goal.returns
returns c = one_spelling_in_front
