use Rattle.std.proofs.Common.{◌≡◌, drop}
use Rattle.ans_model.specs.Screen.Attribute.{attribute_after_all}
use Rattle.ans_model.proofs.attribute.attribute_after_all.Given as goal

-- what is left to apply gives what all give
abbrev pub invariant-loop-parameter : goal.invariant-loop-parameter
invariant-loop-parameter l = attribute_after_all l.attribute
    (drop l.parameter-index l.parameters) ≡ attribute_after_all l.old l.parameters
