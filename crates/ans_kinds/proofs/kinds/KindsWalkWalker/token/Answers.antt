use Rattle.std.proofs.Common.{List, ap, ◌∙◌, refl}
use Rattle.std.specs.List.{list_any}
use Rattle.ans_players.specs.Kinds.{is_kind}
use Rattle.ans_players.specs.declared.difference.Difference.{Difference}
use Rattle.ans_pens.specs.Counted.{counted}
use Rattle.ans_kinds.specs.KindsUsed.{used_of}
use Rattle.ans_pens.specs.declared.pen.Pen.{Pen}
use Rattle.ans_kinds.proofs.KindsFound.{text_there, walked_kinds}
use Rattle.ans_kinds.proofs.kinds.KindsWalkWalker.token.Goals as goal

pub returns-clause-walked : goal.returns-clause-walked
returns-clause-walked c first front text next h =
    let old = c.args.self.now in
    let start = c.start-offset.ensures ∙ next.starts in
    let text_is = c.text_at-text.ensures _ text
    (h.content ∙ text_there first.content.now front.texts _ text _ h.whole next.whole) start in
    walked_kinds first old front h _ text _ next.whole _ c.start-offset.result start refl refl
    (rw c.kind-kind.ensures at c.moved_with-self.ensures)
    (rw c.kind-kind.ensures at c.step.ensures.pen)
    (λ s e. rw c.kind-kind.ensures at
    (c.after-self.ensures old.size s (ap (λ (p : Pen). p.cursor) e) (c.step.ensures.pen s e)))
    (rw c.kind-kind.ensures at c.after-self-2.ensures)
    (λ s kind e. c.count.ensures.used kind ∙ ap (λ (kinds : List Difference). counted (used_of old.used kind)
    (list_any (is_kind kind) kinds) c.start-offset.result)
    (rw (c.kind-kind.ensures, text_is) at (c.of-situations.ensures s e)))
