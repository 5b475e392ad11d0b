use Rattle.ans_check_laws.proofs.CleanBytes.{bytes_clean, no_control_bytes}
use Rattle.ans_check_laws.proofs.text_laws.clean_texts_have_clean_bytes.Goals as goal

pub returns-clause-clean : goal.returns-clause-clean
returns-clause-clean c = bytes_clean

pub returns-clause-no_controls : goal.returns-clause-no_controls
returns-clause-no_controls c = no_control_bytes
