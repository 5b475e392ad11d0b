use Rattle.ans_players_laws.proofs.Strict.{strict, strict_tells}
use Rattle.ans_players_laws.proofs.laws.strictest_player_tells.Goals as goal

pub returns : goal.returns
returns c = record { player = strict; tells = strict_tells }
