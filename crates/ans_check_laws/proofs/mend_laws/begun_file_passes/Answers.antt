use Rattle.ans_check_laws.proofs.BegunFiles.{begun_file_passes}
use Rattle.ans_check_laws.proofs.mend_laws.begun_file_passes.Goals as goal

pub returns : goal.returns
returns c = begun_file_passes
