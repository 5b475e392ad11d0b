use Rattle.ans_play_laws.proofs.OneEnd.{finish_alike, feed_alike}
use Rattle.ans_play_laws.proofs.play_laws.players_end_alike.Goals as goal

pub returns-clause-finish : goal.returns-clause-finish
returns-clause-finish c = finish_alike

pub returns-clause-feed : goal.returns-clause-feed
returns-clause-feed c = feed_alike
