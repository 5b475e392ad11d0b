use Rattle.ans_kinds.proofs.NamedPlayers.{mended_is_same_where_cleared}
use Rattle.ans_play_laws.proofs.walk_laws.mended_content_is_same_where_cleared.Goals as goal

pub returns : goal.returns
returns c = mended_is_same_where_cleared
