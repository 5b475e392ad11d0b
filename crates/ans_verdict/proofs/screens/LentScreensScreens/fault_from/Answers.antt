use Rattle.std.proofs.Common.{arith}
use Rattle.ans_verdict.proofs.RoomLemmas.{takes_lent}
use Rattle.ans_verdict.proofs.screens.LentScreensScreens.fault_from.Goals as goal

pub returns-clause-room : goal.returns-clause-room
returns-clause-room c =
    takes_lent c.fault_on_lent.result _ _ _ (omega arith) (omega arith) c.fault_on_lent.ensures.room
