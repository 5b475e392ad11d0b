use Rattle.ans_kinds.proofs.KindsFound.{walked_moves, walked_told}
use Rattle.ans_kinds.proofs.kinds.KindsWalk.over.Goals as goal

pub returns-clause-told : goal.returns-clause-told
returns-clause-told c good kind = walked_told c.args.content.now _ _ c.walk.result c.walk.ensures good kind

pub returns-clause-moves : goal.returns-clause-moves
returns-clause-moves c tokens texts reads =
    walked_moves c.args.content.now _ _ c.walk.result c.walk.ensures tokens texts reads
