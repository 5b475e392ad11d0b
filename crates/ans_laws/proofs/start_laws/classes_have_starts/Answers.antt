use Rattle.ans_model.proofs.StartLemmas.{low_is_start, high_is_start}
use Rattle.ans_laws.proofs.start_laws.classes_have_starts.Goals as goal

pub returns : goal.returns
returns c = record {
  low = λ z class size. low_is_start z class size.some_columns;
  high = λ z class size. high_is_start z class size.some_columns;
}
