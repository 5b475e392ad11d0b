use Rattle.std.proofs.Common.{refl}
use Rattle.ans_kinds.proofs.AgreedFound.{only_agreed_whole}
use Rattle.ans_kinds.proofs.agreed.has_only_agreed_from.Goals as goal

pub returns : goal.returns
returns c s tokens texts pen reads from_cleared =
    only_agreed_whole c.args.content.now _ c.walk.new.walker s tokens texts
    (record { pen = pen; sync = refl; cleared = c.cleared.ensures; cleared_sync = refl; names = refl }) reads
    from_cleared c.walk.result c.walk.ensures
