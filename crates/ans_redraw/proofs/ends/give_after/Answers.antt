use Rattle.std.proofs.Common.{[], ◌∷◌}
use Rattle.ans_redraw.specs.Form.{black, texts}
use Rattle.ans_redraw.proofs.RowEnds.{after_closed}
use Rattle.ans_redraw.proofs.RowsGiven.{takes_same}
use Rattle.ans_redraw.proofs.ends.give_after.Goals as goal

pub returns-clause-takes : goal.returns-clause-takes
returns-clause-takes g c =
    takes_same g.S.Sink.takes
    (after_closed c.args.opens c.args.follows c.args.row c.args.attribute c.if-opens.false c.if-not-follows.false)
    (g.met.S.Sink.both _ _ _ (texts (black c.args.attribute)) (0x0D ∷ 0x0A ∷ []) c.give_black.ensures c.take.ensures)
