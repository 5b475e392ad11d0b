use Rattle.ans_kinds.proofs.AgreedFound.{needed_if_not_agreed}
use Rattle.ans_kinds.proofs.agreed.is_needed.Goals as goal

pub returns-else-needed : goal.returns-else-needed
returns-else-needed c s tokens texts pen reads from_cleared =
    needed_if_not_agreed c.args.needed c.has_only_agreed_from.result c.if-needed.false
    (c.has_only_agreed_from.ensures s tokens texts pen reads from_cleared)
