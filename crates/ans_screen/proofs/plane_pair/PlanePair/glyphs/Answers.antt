use Rattle.std.proofs.Common.{ℕ, List, subst}
use Rattle.ans_screen.specs.CellPlanes.{with_zeros, IsFront}
use Rattle.ans_screen.proofs.plane_pair.PlanePair.glyphs.Goals as goal

pub returns : goal.returns
returns c =
    subst (λ (xs : List ℕ). IsFront c.held_of.result.now (with_zeros xs c.args.self.now.zeros) c.args.from c.args.to)
    c.deref.ensures.value (c.held_of.ensures c.args.self.now.zeros)
