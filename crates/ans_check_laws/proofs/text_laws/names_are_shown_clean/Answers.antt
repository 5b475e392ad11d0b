use Rattle.ans_check_laws.proofs.CleanNames.{name_has_no_controls, named_messages_clean}
use Rattle.ans_check_laws.proofs.text_laws.names_are_shown_clean.Goals as goal

pub returns : goal.returns
returns c = record {
  names = name_has_no_controls;
  messages = λ n ending text bytes. named_messages_clean n bytes ending text;
}
