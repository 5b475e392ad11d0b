use Rattle.std.proofs.Common.{◌-◌, true}
use Rattle.ans_tokens.specs.Handed.{StandsAt}
use Rattle.ans_tokens.proofs.walker.walk.Given as goal

abbrev pub invariant-loop-at : goal.invariant-loop-at
invariant-loop-at g l =
    StandsAt g.W.Walker.walked g.W.Walker.ready l.content l.end l.fn.walker l.at l.walker true

abbrev pub decreases-loop-at : goal.decreases-loop-at
decreases-loop-at g l = l.end - l.at
