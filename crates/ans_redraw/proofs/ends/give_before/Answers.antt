use Rattle.std.proofs.Common.{◌∷◌, codes}
use Rattle.ans_model.specs.Bytes.{escape}
use Rattle.ans_redraw.specs.Form.{black, texts}
use Rattle.ans_redraw.proofs.RowEnds.{before_opened}
use Rattle.ans_redraw.proofs.RowsGiven.{takes_same}
use Rattle.ans_redraw.proofs.ends.give_before.Goals as goal

pub returns-clause-takes : goal.returns-clause-takes
returns-clause-takes g c =
    takes_same g.S.Sink.takes (before_opened c.args.opens c.args.attribute c.if-not-opens.false)
    (g.met.S.Sink.both _ _ _ (texts (black c.args.attribute)) (0x0A ∷ escape ∷ codes "[A") c.give_black.ensures
    c.take.ensures)
