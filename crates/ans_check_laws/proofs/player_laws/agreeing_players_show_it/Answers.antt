use Rattle.ans_kinds.specs.KindsUsed.{is_used}
use Rattle.ans_kinds.proofs.NamedPlayers.{same_in_used}
use Rattle.ans_check_laws.proofs.PlayersShown.{same_is_shown}
use Rattle.ans_check_laws.proofs.player_laws.agreeing_players_show_it.Goals as goal

pub returns : goal.returns
returns g c bytes used picture said each good =
    same_is_shown g.P.Family.size bytes (is_used used) g.P.Family.agreed g.P.Family.behaviour g.P.Family.is_player
    each _ picture (same_in_used g.P.Family.size bytes used said.0 (picture, good)) good
