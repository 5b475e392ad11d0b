use Rattle.ans_players_laws.proofs.Parting.{parting}
use Rattle.ans_players_laws.proofs.witnesses.players_may_part_where_kinds_arise.Goals as goal

pub returns : goal.returns
returns c = parting
