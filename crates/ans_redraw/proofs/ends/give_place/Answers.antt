use Rattle.std.proofs.Common.{◌-◌, ◌∷◌, codes, arith}
use Rattle.ans_model.specs.Bytes.{escape}
use Rattle.ans_redraw.specs.Form.{downward, texts}
use Rattle.ans_redraw.proofs.RowEnds.{far_place}
use Rattle.ans_redraw.proofs.RowsGiven.{takes_same}
use Rattle.ans_redraw.proofs.ends.give_place.Goals as goal

pub returns : goal.returns
returns g c =
    takes_same g.S.Sink.takes (far_place c.args.row (omega (arith, c.if-row-le255.false)))
    (g.met.S.Sink.both _ _ _ (escape ∷ codes "[H") (texts (downward (c.args.row - 1))) c.take.ensures
    c.give_downward.ensures)
