use Rattle.std.proofs.Common.{◌<◌, arith, ap, ◌∙◌, fold, replicate}
use Rattle.ans_model.specs.Bytes.{blank}
use Rattle.ans_model.specs.Screen.State.{State}
use Rattle.ans_model.specs.Screen.Step.{put, tab_blanks}
use Rattle.ans_pens.specs.CellPlays.{kept}
use Rattle.ans_pens.specs.declared.cell_play.CellPlay.{CellPlay}
use Rattle.ans_pens.proofs.PenSteps.{one_blank_last}
use Rattle.ans_pens.proofs.CellPlaySteps.{fits_after_blanks}
use Rattle.ans_pens.proofs.cell_play.CellPlay.tab.Goals as goal

pub loop-preserved : goal.loop-preserved
loop-preserved c = record {
  stands = c.print.ensures.stands;
  play = λ s e fits above.
      let z = c.args.size in
      let n = c.loop.counter in
      let here : State = fold (put z) s (replicate n blank) in
      let column = ap (λ (w : CellPlay). tab_blanks w.pen.cursor.column) e in
      let lt : n < tab_blanks s.cursor.column = omega (arith, column, c.tab_blanks-blanks.ensures) in
      c.print.ensures.play here (c.loop.invariant.play s e fits above)
      (fits_after_blanks z s n (omega arith) fits) (above n lt)
      ∙ ap (λ (t : State). kept z c.args.at t) (one_blank_last z s n);
}
