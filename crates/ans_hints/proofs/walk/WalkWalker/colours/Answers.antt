use Rattle.std.proofs.Common.{arith}
use Rattle.ans_hints.proofs.HintsFound.{is_at_later, walked_token}
use Rattle.ans_hints.proofs.walk.WalkWalker.colours.Goals as goal

pub returns-clause-ready : goal.returns-clause-ready
returns-clause-ready c = is_at_later _ _ _ c.go_over_colours.ensures.at (omega (arith, c.requires.some))

pub returns-clause-walked : goal.returns-clause-walked
returns-clause-walked c first front text next h =
    walked_token first c.args.self.now front _ text _ h next.whole _ _ next.starts
    (c.go_over_colours.ensures.over _)
