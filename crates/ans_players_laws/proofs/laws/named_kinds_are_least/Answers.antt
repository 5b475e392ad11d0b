use Rattle.ans_players.proofs.NamedKinds.{named_are_least}
use Rattle.ans_players_laws.proofs.NamedOnce.{named_one_way, strict_needs_named}
use Rattle.ans_players_laws.proofs.laws.named_kinds_are_least.Goals as goal

pub returns : goal.returns
returns c = record { least = named_are_least; shown = strict_needs_named; one = named_one_way }
