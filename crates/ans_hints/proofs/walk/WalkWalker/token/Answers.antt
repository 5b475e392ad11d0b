use Rattle.std.proofs.Common.{◌∙◌, arith}
use Rattle.ans_hints.proofs.HintsFound.{is_at_later, walked_token}
use Rattle.ans_hints.proofs.walk.WalkWalker.token.Goals as goal

pub returns-clause-ready : goal.returns-clause-ready
returns-clause-ready c =
    is_at_later _ _ _ c.go_over.ensures.at (omega (arith, c.start.ensures, c.requires.some))

pub returns-clause-walked : goal.returns-clause-walked
returns-clause-walked c first front text next h =
    walked_token first c.args.self.now front _ text _ h next.whole _ c.start.result (c.start.ensures ∙ next.starts)
    (rw c.kind.ensures at c.go_over.ensures.over)
