use Rattle.ans_players_laws.proofs.Everywhere.{good_is_shown}
use Rattle.ans_players_laws.proofs.laws.shows_everywhere.Goals as goal

pub returns : goal.returns
returns g c = good_is_shown g.P.Player.size g.P.Player.agreed g.P.Player.behaviour g.P.Player.is_player
