use Rattle.std.proofs.Common.{◌≡◌, ap, sym, ◌∙◌, subst, subst₂, arith}
use Rattle.ans_model.specs.Inside.ShownKind.{shown_kind}
use Rattle.ans_model.specs.Screen.State.{Size}
use Rattle.ans_model.specs.Screen.Step.{step}
use Rattle.ans_pens.specs.Pens.{pen_of, StandsOn}
use Rattle.ans_hints.specs.RowEnds.{row_with}
use Rattle.ans_pens.specs.declared.pen.Pen.{Pen}
use Rattle.ans_hints.specs.declared.row.Row.{Row}
use Rattle.ans_hints.specs.declared.walk.Walk.{Walk}
use Rattle.ans_hints.proofs.walk.Walk.go_over.Goals as goal

pub step-requires : goal.step-requires
step-requires c = record {
  stands = subst (λ (w : Walk). StandsOn w.size w.pen) (sym c.look.ensures.kept) c.requires.at.stands;
}

pub returns-clause-at : goal.returns-clause-at
returns-clause-at c = record {
  stands = c.step.ensures.stands;
  within = c.look.ensures.within;
  loose_before = c.look.ensures.few;
  wraps = omega (
    arith,
    c.step-2.ensures.few,
    ap (λ (w : Walk). w.row.wraps) c.look.ensures.kept,
    c.requires.at.wraps,
  );
}

pub returns-clause-over : goal.returns-clause-over
returns-clause-over c =
    let kept = c.look.ensures.kept in
    record {
      size = ap (λ (w : Walk). w.size) kept;
      non_blink = ap (λ (w : Walk). w.non_blink) kept;
      pen = λ s e. subst (λ (z : Size). c.step.new.self ≡ pen_of (step z s (shown_kind c.args.kind.now)))
          (ap (λ (w : Walk). w.size) kept) (c.step.ensures.pen s (ap (λ (w : Walk). w.pen) kept ∙ e));
      row = λ s e.
          let pen : c.look.new.self.pen ≡ pen_of s = ap (λ (w : Walk). w.pen) kept ∙ e in
          subst₂ (λ (z : Size) (r : Row). c.step-2.new.self ≡ row_with z s c.args.offset r (shown_kind c.args.kind.now))
          (ap (λ (w : Walk). w.size) kept) (ap (λ (w : Walk). w.row) kept)
          (c.step-2.ensures.row s pen (ap (λ (p : Pen). p.cursor.column) (c.step.ensures.pen s pen)));
      loose_before = ap (λ (w : Walk). w.loose_before) kept;
      hints = c.look.ensures.hints;
    }
