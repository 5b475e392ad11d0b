use Rattle.ans_model.proofs.FirstRefusal.{refusal_within_file}
use Rattle.ans_laws.proofs.FirstThatApplies.{answers_first_that_applies}
use Rattle.ans_laws.proofs.file_laws.first_refusal_answers.Goals as goal

pub returns : goal.returns
returns c = record { first = answers_first_that_applies; within = refusal_within_file }
