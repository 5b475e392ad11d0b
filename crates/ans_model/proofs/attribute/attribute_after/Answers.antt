use Rattle.ans_model.specs.Screen.Attribute.{rendition_of, renditions}
use Rattle.ans_model.proofs.AttributeBytes.{attribute_by_found}
use Rattle.ans_model.proofs.attribute.attribute_after.Goals as goal

pub returns : goal.returns
returns c =
    attribute_by_found (rendition_of renditions c.args.parameter) c.args.old c.change_of-change.result
    c.ranges.old.fits c.change_of-change.ensures
