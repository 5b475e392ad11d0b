use Rattle.ans_players_laws.proofs.MendedPlayers.{mending_is_read, mended_is_agreed}
use Rattle.ans_players_laws.proofs.laws.mended_tokens_are_agreed.Goals as goal

pub returns : goal.returns
returns c = record { read = mending_is_read; agreed = mended_is_agreed }
