use Rattle.ans_screen.proofs.Zeros.{front_held}
use Rattle.ans_screen.proofs.plane_pair.held_of.Goals as goal

pub returns : goal.returns
returns c =
    front_held c.args.bytes.now c.args.from c.args.to c.min.result c.min-to.result c.requires c.min-to.ensures
    c.min.ensures
