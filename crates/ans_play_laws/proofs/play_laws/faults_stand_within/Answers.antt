use Rattle.ans_play.proofs.Feeding.{first_within}
use Rattle.ans_play.proofs.Finishing.{last_within}
use Rattle.ans_play_laws.proofs.play_laws.faults_stand_within.Goals as goal

pub returns : goal.returns
returns c = record { first = first_within; last = last_within }
