use Rattle.ans_pens.proofs.NamedCells.{named_last, none_named}
use Rattle.ans_pens.proofs.evidence.cells_of_fault.Goals as goal

pub play_cell-requires-clause-named : goal.play_cell-requires-clause-named
play_cell-requires-clause-named c =
    named_last c.args.size c.args.start c.in-UnknownCell.row c.in-UnknownCell.col c.args.content.now c.args.fault
    c.in-UnknownCell.is c.requires.deserved

pub returns-in_default : goal.returns-in_default
returns-in_default c =
    none_named c.args.size c.args.start c.args.content.now c.args.fault.cause c.in_default.not-UnknownCell
