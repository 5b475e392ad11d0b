use Rattle.ans_players_laws.proofs.Parting.{profile_player}
use Rattle.ans_players_laws.proofs.witnesses.profile_is_a_player.Goals as goal

pub returns : goal.returns
returns c = profile_player
