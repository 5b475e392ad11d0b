use Rattle.ans_model.proofs.ClassLemmas as model
use Rattle.ans_laws.proofs.ClassStarts.{both_known_is_greatest}
use Rattle.ans_laws.proofs.start_laws.classes_are_covered_by_their_parts.Goals as goal

pub returns : goal.returns
returns c = record {
  both = both_known_is_greatest;
  all_but_one = λ class. record {
    screen = model.covers_all_but_screen class;
    cursor = model.covers_all_but_cursor class;
    saved = model.covers_all_but_saved class;
    colours = model.covers_all_but_colours class;
    wrap = model.covers_all_but_wrap class;
  };
}
