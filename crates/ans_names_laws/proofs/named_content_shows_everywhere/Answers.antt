use Rattle.ans_names_laws.proofs.NamedPlayers.{named_is_shown}
use Rattle.ans_names_laws.proofs.named_content_shows_everywhere.Goals as goal

pub returns : goal.returns
returns g c = named_is_shown g.P.Family.size g.P.Family.agreed g.P.Family.behaviour g.P.Family.is_player
