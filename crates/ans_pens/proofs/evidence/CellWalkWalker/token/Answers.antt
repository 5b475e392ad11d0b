use Rattle.std.proofs.Common.{refl}
use Rattle.ans_pens.proofs.KeptSoFar.{kept_token}
use Rattle.ans_pens.proofs.evidence.CellWalkWalker.token.Goals as goal

pub returns-clause-walked : goal.returns-clause-walked
returns-clause-walked c first front text next h =
    kept_token first c.args.self.now _ front.tokens _ h refl refl c.step.ensures.stand
    (rw c.kind.ensures at c.step.ensures.kept)
