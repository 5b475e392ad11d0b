use Rattle.std.proofs.Common.{refl, arith}
use Rattle.ans_pens.proofs.TallerFound.{goes_on_over}
use Rattle.ans_pens.proofs.taller.MovesWalker.colours.Goals as goal

pub returns-clause-walked : goal.returns-clause-walked
returns-clause-walked c first front text next h =
    goes_on_over first c.args.self.now front.tokens _ h (omega (arith, c.requires.ready.0.cursor.1)) _ refl tt
    (c.colour.ensures.pen c.args.self.now.size) (c.colour-2.ensures.pen c.args.self.now.size)
