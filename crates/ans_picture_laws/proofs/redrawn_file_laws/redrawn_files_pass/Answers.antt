use Rattle.ans_picture_laws.proofs.RedrawnFiles.{redrawn_files_pass}
use Rattle.ans_picture_laws.proofs.redrawn_file_laws.redrawn_files_pass.Goals as goal

pub returns : goal.returns
returns c = redrawn_files_pass
