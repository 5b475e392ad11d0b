use Rattle.ans_check_laws.proofs.BytesTold.{changes_clean}
use Rattle.ans_check_laws.proofs.CleanMended.{unmended_clean}
use Rattle.ans_check_laws.proofs.text_laws.what_mending_says_is_clean.Goals as goal

pub returns : goal.returns
returns c = record { changes = changes_clean; reasons = unmended_clean }
