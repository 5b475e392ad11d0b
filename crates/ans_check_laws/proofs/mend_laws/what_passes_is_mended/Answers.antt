use Rattle.ans_check_laws.proofs.ReasonsItself.{too_long_itself}
use Rattle.ans_check_laws.proofs.mend_laws.what_passes_is_mended.Goals as goal

pub returns : goal.returns
returns c file apart picture reason passes = too_long_itself file apart picture passes reason
