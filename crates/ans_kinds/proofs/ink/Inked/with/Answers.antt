use Rattle.std.proofs.Common.{arith}
use Rattle.ans_model.specs.Screen.Attribute.{rendition_of, renditions}
use Rattle.ans_kinds.proofs.Effects.{attribute_by_effect}
use Rattle.ans_kinds.proofs.ink.Inked.with.Goals as goal

pub returns-clause-attribute : goal.returns-clause-attribute
returns-clause-attribute c =
    attribute_by_effect (rendition_of renditions c.args.number) c.args.self.attribute c.effect_of-effect.result
    (omega arith) c.effect_of-effect.ensures.attribute
