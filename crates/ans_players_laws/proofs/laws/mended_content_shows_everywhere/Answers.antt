use Rattle.ans_players_laws.proofs.MendedPlayers.{mended_is_shown}
use Rattle.ans_players_laws.proofs.laws.mended_content_shows_everywhere.Goals as goal

pub returns : goal.returns
returns g c = mended_is_shown g.P.Family.size g.P.Family.agreed g.P.Family.behaviour g.P.Family.is_player
