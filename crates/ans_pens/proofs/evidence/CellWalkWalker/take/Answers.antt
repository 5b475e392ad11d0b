use Rattle.std.proofs.Common.{refl}
use Rattle.ans_pens.proofs.evidence.CellWalkWalker.take.Goals as goal

pub returns-clause-walked : goal.returns-clause-walked
returns-clause-walked c first front behind next h =
    c.requires.takes first front c.args._offset c.args._run.now behind refl next h
