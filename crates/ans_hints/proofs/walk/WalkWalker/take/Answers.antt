use Rattle.std.proofs.Common.{arith}
use Rattle.ans_hints.proofs.RunHints.{walked_run}
use Rattle.ans_hints.proofs.walk.WalkWalker.take.Goals as goal

pub returns-clause-walked : goal.returns-clause-walked
returns-clause-walked c first front behind next h =
    walked_run first c.args.self.now front c.args.run.now behind c.args.offset h
    (λ k l. omega (arith, c.type_inv.run k)) next c.requires.takes c.requires.some _ c.go_past.ensures.past
