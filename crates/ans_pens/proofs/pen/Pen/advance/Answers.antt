use Rattle.std.proofs.Common.{◌≡◌, ◌+◌, ◌≤◌, true, arith, sym, ap, ◌∙◌}
use Rattle.ans_model.specs.Screen.State.{at}
use Rattle.ans_pens.specs.Pens.{pen_of}
use Rattle.ans_pens.specs.declared.pen.Pen.{Pen}
use Rattle.ans_pens.proofs.PenSteps.{wraps}
use Rattle.ans_pens.proofs.pen.Pen.advance.Goals as goal

pub returns-then-self-clause-pen : goal.returns-then-self-clause-pen
returns-then-self-clause-pen c s e =
    let z = c.args.size in
    let last : z.width ≤ s.cursor.column + 1 = omega (arith, ap (λ (w : Pen). w.cursor.column) e) in
    let on : s.wrap ≡ true = sym (ap (λ (w : Pen). w.wrap) e) ∙ c.if-self.true in
    c.line_feed.ensures.pen (record s { cursor = at s.cursor.row 0 })
    (ap (λ (w : Pen). record w { cursor = at w.cursor.row 0 }) e)
    ∙ ap pen_of (sym (wraps z s last on))
