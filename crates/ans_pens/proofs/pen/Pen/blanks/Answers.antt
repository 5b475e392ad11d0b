use Rattle.std.proofs.Common.{◌+◌, fold, replicate, arith, sym, ap, ◌∙◌}
use Rattle.std.proofs.lemmas.List.{length-replicate}
use Rattle.ans_model.specs.Bytes.{blank}
use Rattle.ans_model.specs.Screen.State.{State, at}
use Rattle.ans_model.specs.Screen.Step.{printed, put}
use Rattle.ans_pens.specs.Pens.{pen_of}
use Rattle.ans_pens.specs.declared.pen.Pen.{Pen}
use Rattle.ans_pens.proofs.PenSteps.{one_blank_last, bytes_in_row}
use Rattle.ans_pens.proofs.pen.Pen.blanks.Goals as goal

pub returns-then-self-count-clause-pen : goal.returns-then-self-count-clause-pen
returns-then-self-count-clause-pen c s e =
    let column = ap (λ (p : Pen). p.cursor.column) e in
    ap (λ (p : Pen). record p { cursor = at p.cursor.row (p.cursor.column + c.args.count) }) e
    ∙ sym (bytes_in_row (replicate c.args.count blank) c.args.size s c.args.count (length-replicate c.args.count blank)
    (omega (arith, column)))

pub loop-preserved : goal.loop-preserved
loop-preserved c = record {
  stands = c.advance.ensures.stands;
  pen = λ s e.
      let z = c.args.size in
      let n = c.loop.counter in
      let here : State = fold (put z) s (replicate n blank) in
      c.advance.ensures.pen (printed z here blank) (c.loop.invariant.pen s e) ∙ ap pen_of (one_blank_last z s n);
}
