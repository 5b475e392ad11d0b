use Rattle.ans_check_laws.proofs.CleanBytes.{named_line_is_one}
use Rattle.ans_check_laws.proofs.text_laws.fields_are_shown_in_one_line.Goals as goal

pub returns : goal.returns
returns c = named_line_is_one
