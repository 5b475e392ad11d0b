use Rattle.std.proofs.Common.{◌∙◌}
use Rattle.ans_screen.proofs.Blends.{short_fill}
use Rattle.ans_screen.proofs.planes.blend_fill.Goals as goal

pub returns-clause-items : goal.returns-clause-items
returns-clause-items c =
    c.blend_at.ensures
    ∙ short_fill c.args.plane.now c.args.from c.args.to c.args.byte c.requires.ordered c.requires.short
