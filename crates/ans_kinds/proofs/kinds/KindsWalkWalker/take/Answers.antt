use Rattle.std.proofs.Common.{arith, refl}
use Rattle.ans_kinds.proofs.RunsFound.{walked_run}
use Rattle.ans_kinds.proofs.kinds.KindsWalkWalker.take.Goals as goal

pub returns-clause-walked : goal.returns-clause-walked
returns-clause-walked c first front behind next h =
    walked_run first c.args.self.now _ front c.args.run.now behind c.args.offset h
    (λ k l. omega (arith, c.type_inv.run k)) next c.requires.takes refl refl c.go_on.ensures.pen refl refl refl
    (λ kind. rw c.are_both.ensures at (c.count_run.ensures.used kind))
