use Rattle.std.proofs.Common.{List, ap, refl, sym, ◌∙◌}
use Rattle.std.specs.List.{list_all}
use Rattle.std.proofs.lemmas.Bool.{not-false}
use Rattle.ans_model.specs.Inside.ShownKind.{shown_kind}
use Rattle.ans_players.specs.declared.difference.Difference.{Difference}
use Rattle.ans_tokens.specs.Token.{kind_of}
use Rattle.ans_kinds.specs.KindsUsed.{is_used}
use Rattle.ans_pens.specs.declared.pen.Pen.{Pen}
use Rattle.ans_kinds.proofs.AgreedFound.{walked_apart, walked_on}
use Rattle.ans_kinds.proofs.KindsFound.{text_there}
use Rattle.ans_kinds.proofs.agreed.AgreedWalkWalker.token.Goals as goal

pub returns-then-not-have_all-clause-walked : goal.returns-then-not-have_all-clause-walked
returns-then-not-have_all-clause-walked c first front text next h =
    let old = c.args.self.now in
    let text_is = c.text_at-text.ensures _ text
    (h.content ∙ text_there first.content.now front.texts _ text _ h.whole next.whole)
    (c.start.ensures ∙ next.starts) in
    walked_apart first old _ front (shown_kind (kind_of c.args.token.now)) text _ h next.whole refl refl refl
    (λ s e. sym c.if-not-have_all.true ∙ c.have_all.ensures
    ∙ ap (λ (kinds : List Difference). list_all (is_used old.used.now) kinds)
    (rw (c.kind-kind.ensures, text_is) at (c.of-situations.ensures s e))) refl

pub returns-clause-walked : goal.returns-clause-walked
returns-clause-walked c first front text next h =
    let old = c.args.self.now in
    let text_is = c.text_at-text.ensures _ text
    (h.content ∙ text_there first.content.now front.texts _ text _ h.whole next.whole)
    (c.start.ensures ∙ next.starts) in
    walked_on first old _ front (shown_kind (kind_of c.args.token.now)) text _ h next.whole refl refl refl _
    (λ s e. sym c.if-not-have_all.false ∙ c.have_all.ensures
    ∙ ap (λ (kinds : List Difference). list_all (is_used old.used.now) kinds)
    (rw (c.kind-kind.ensures, text_is) at (c.of-situations.ensures s e)))
    (h.on refl) (λ stops. c.stand_alike.ensures (not-false _ stops)) (
      rw c.kind-kind.ensures at c.step.ensures.pen,
      λ s e. rw c.kind-kind.ensures at
          (c.after-self.ensures old.size s (ap (λ (p : Pen). p.cursor) e) (c.step.ensures.pen s e)),
    ) (
      rw c.kind-kind.ensures at c.step-2.ensures.pen,
      λ s e. rw c.kind-kind.ensures at
          (c.after-self-2.ensures old.size s (ap (λ (p : Pen). p.cursor) e) (c.step-2.ensures.pen s e)),
    )
    (rw c.kind-kind.ensures at c.after-self-3.ensures)
