use Rattle.ans_model.proofs.OneAnswer as answer
use Rattle.ans_laws.proofs.text_laws.one_answer.Goals as goal

pub returns : goal.returns
returns c = record {
  one_first_fault = answer.one_first_fault;
  one_last_fault = answer.one_last_fault;
  not_first_and_last = answer.first_or_last;
  not_good_and_first = answer.good_or_first;
  not_good_and_last = answer.good_or_last;
}
