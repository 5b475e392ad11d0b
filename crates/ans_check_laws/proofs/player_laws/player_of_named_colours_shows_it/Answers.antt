use Rattle.ans_check_laws.proofs.PlayersShown.{named_is_shown}
use Rattle.ans_check_laws.proofs.player_laws.player_of_named_colours_shows_it.Goals as goal

pub returns : goal.returns
returns g c bytes class known times picture said own covers good =
    named_is_shown g.P.Family.size bytes g.P.Family.agreed g.P.Family.behaviour g.P.Family.is_player own class known
    picture said.0 covers good
