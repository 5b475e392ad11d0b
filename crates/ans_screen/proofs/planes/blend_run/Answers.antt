use Rattle.std.proofs.Common.{◌∙◌, List, ℕ, ap}
use Rattle.std.proofs.lemmas.List.{take-take}
use Rattle.ans_screen.specs.GridEdits.{written}
use Rattle.ans_screen.proofs.planes.blend_run.Goals as goal

pub returns-clause-items : goal.returns-clause-items
returns-clause-items c =
    c.blend_at.ensures
    ∙ ap (λ (ys : List ℕ). written c.args.plane.now c.args.from ys)
    (take-take c.args.count 16 c.args.bytes.now c.requires.count)
