use Rattle.ans_players.proofs.TwoStarts.{two_starts_tell, same_by_two_starts}
use Rattle.ans_players_laws.proofs.laws.two_starts_tell_of_players.Goals as goal

pub returns : goal.returns
returns c = record { tell = two_starts_tell; same = same_by_two_starts }
