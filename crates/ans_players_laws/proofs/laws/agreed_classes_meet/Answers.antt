use Rattle.ans_players.proofs.Meets.{agreed_meet}
use Rattle.ans_players_laws.proofs.laws.agreed_classes_meet.Goals as goal

pub returns : goal.returns
returns c = agreed_meet
