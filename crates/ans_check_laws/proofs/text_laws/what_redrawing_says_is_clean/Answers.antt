use Rattle.ans_check_laws.proofs.CleanRedrawn.{redrawn_clean, unredrawn_clean}
use Rattle.ans_check_laws.proofs.text_laws.what_redrawing_says_is_clean.Goals as goal

pub returns : goal.returns
returns c = record { changes = redrawn_clean; reasons = unredrawn_clean }
