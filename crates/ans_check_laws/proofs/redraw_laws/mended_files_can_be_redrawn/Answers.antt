use Rattle.ans_check_laws.proofs.MendedRedrawn.{mended_redrawn}
use Rattle.ans_check_laws.proofs.redraw_laws.mended_files_can_be_redrawn.Goals as goal

pub returns : goal.returns
returns c = mended_redrawn
