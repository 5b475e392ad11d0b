use Rattle.ans_check_laws.proofs.PlayersShown.{any_is_shown}
use Rattle.ans_check_laws.proofs.player_laws.any_player_shows_it.Goals as goal

pub returns : goal.returns
returns g c bytes = any_is_shown g.P.Family.size bytes g.P.Family.agreed g.P.Family.behaviour g.P.Family.is_player
