use Rattle.std.proofs.Common.{refl, sym, ap, ◌∙◌}
use Rattle.ans_model.specs.Inside.ShownKind.{shown_kind}
use Rattle.ans_model.specs.declared.kind.Kind.{Kind}
use Rattle.ans_players.specs.Names.{paints}
use Rattle.ans_mend.proofs.SearchSteps.{passed, printed}
use Rattle.ans_mend.proofs.name_search.NameSearchWalker.token.Goals as goal

pub returns-then-paints-clause-walked : goal.returns-then-paints-clause-walked
returns-then-paints-clause-walked c first front text next h =
    printed first c.args.self.now front _ text c.args.behind.now h _ c.is_none.result
    (sym (ap (λ (k : Kind). paints (shown_kind k)) c.kind.ensures) ∙ sym c.paints.ensures ∙ c.if-paints.true) refl
    c.after_print-self.ensures refl c.is_none.ensures

pub returns-clause-walked : goal.returns-clause-walked
returns-clause-walked c first front text next h =
    passed first c.args.self.now front _ text c.args.behind.now h _ c.args.token.now
    (sym (ap (λ (k : Kind). paints (shown_kind k)) c.kind.ensures) ∙ sym c.paints.ensures ∙ c.if-paints.false) refl
    next.starts next.long refl c.after_token-self.ensures (rw c.kind-2.ensures at c.after-self.ensures)
