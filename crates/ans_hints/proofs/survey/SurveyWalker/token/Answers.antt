use Rattle.std.proofs.Common.{List, ap, ◌∙◌, arith, refl}
use Rattle.std.specs.List.{list_any}
use Rattle.ans_players.specs.Kinds.{is_kind}
use Rattle.ans_players.specs.declared.difference.Difference.{Difference}
use Rattle.ans_pens.specs.Counted.{counted}
use Rattle.ans_kinds.specs.KindsUsed.{used_of}
use Rattle.ans_hints.specs.Surveyed.{kinds_walk_of}
use Rattle.ans_pens.specs.declared.pen.Pen.{Pen}
use Rattle.ans_hints.proofs.HintsFound.{is_at_later, walked_token}
use Rattle.ans_kinds.proofs.KindsFound.{text_there, walked_kinds}
use Rattle.ans_hints.proofs.survey.SurveyWalker.token.Goals as goal

pub returns-clause-ready : goal.returns-clause-ready
returns-clause-ready c = record {
  at = is_at_later _ _ _ c.go_over.ensures.at (omega (arith, c.start-offset.ensures, c.requires.some));
  few = λ n within. omega (arith, c.count.ensures.few n within, c.start-offset.ensures, c.requires.some);
}

pub returns-clause-walked : goal.returns-clause-walked
returns-clause-walked c first front text next h =
    let old = c.args.self.now in
    let start = c.start-offset.ensures ∙ next.starts in
    let over = rw c.kind-kind.ensures at c.go_over.ensures.over in
    let text_is = c.text_at-text.ensures _ text
    (h.kinds.content ∙ text_there first.content.now front.texts _ text _ h.kinds.whole next.whole) start in
    record {
      hints = walked_token first.walk old.walk front _ text _ h.hints next.whole _ c.start-offset.result start over;
      kinds = walked_kinds (kinds_walk_of first) (kinds_walk_of old) front h.kinds _ text _ next.whole _
          c.start-offset.result start over.size refl (rw c.kind-kind.ensures at c.moved_with-self.ensures) over.pen
          (λ s e. rw c.kind-kind.ensures at
          (c.after-self.ensures old.walk.size s (ap (λ (p : Pen). p.cursor) e) (c.go_over.ensures.over.pen s e)))
          (rw c.kind-kind.ensures at c.after-self-2.ensures)
          (λ s kind e. c.count.ensures.used kind ∙ ap (λ (kinds : List Difference). counted (used_of old.used kind)
          (list_any (is_kind kind) kinds) c.start-offset.result)
          (rw (c.kind-kind.ensures, text_is) at (c.of-situations.ensures s e)));
    }
