use Rattle.std.proofs.Common.{◌≡◌, drop}
use Rattle.ans_play.specs.HalfStep.{known_after_all}
use Rattle.ans_play.proofs.play.steps.known_after_all.Given as goal

-- what is left to apply gives what all gives
abbrev pub invariant-loop-parameter : goal.invariant-loop-parameter
invariant-loop-parameter l = known_after_all l.new (drop l.parameter-index l.parameters)
    ≡ known_after_all l.fn.attribute l.parameters
