use Rattle.std.proofs.Common.{Bool, drop, subst₂}
use Rattle.ans_model.specs.Screen.State.{Size}
use Rattle.ans_hints.specs.Hints.{AreHints}
use Rattle.ans_hints.proofs.HintsFound.{walked_hints}
use Rattle.ans_hints.proofs.hints.Hints.of.Goals as goal

pub walk-requires-clause-begins : goal.walk-requires-clause-begins
walk-requires-clause-begins c = c.begun-walk.ensures.walked c.args.content.now

pub returns : goal.returns
returns c tokens texts reads =
    subst₂ (λ (z : Size) (non_blink : Bool). AreHints z non_blink tokens texts (drop c.args.end c.args.content.now)
    c.walk.new.walker.hints) c.begun-walk.ensures.size c.begun-walk.ensures.non_blink
    (walked_hints c.args.content.now c.args.end _ _ c.walk.result tokens texts c.walk.ensures reads)
