use Rattle.ans_picture_laws.proofs.RedrawnContents.{only_its_bytes_part}
use Rattle.ans_picture_laws.proofs.redrawn_file_laws.players_part_at_its_bytes_alone.Goals as goal

pub returns : goal.returns
returns c = only_its_bytes_part
