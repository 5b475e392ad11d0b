use Rattle.std.proofs.Common.{not, refl, sym, ap, ◌∙◌}
use Rattle.ans_model.specs.Inside.ShownKind.{shown_kind}
use Rattle.ans_model.specs.declared.kind.Kind.{Kind}
use Rattle.ans_players.specs.Names.{paints}
use Rattle.ans_mend.specs.NamedColours.{takes_names}
use Rattle.ans_mend.proofs.FirstPrint.{first_other, first_print, first_taking}
use Rattle.ans_mend.proofs.name_search.FirstWalker.token.Goals as goal

pub returns-then-paints-clause-walked : goal.returns-then-paints-clause-walked
returns-then-paints-clause-walked c first front text next h =
    first_print first c.args.self.now front _ text c.args._behind.now h _
    (sym (ap (λ (k : Kind). paints (shown_kind k)) c.kind-kind.ensures) ∙ sym c.paints.ensures ∙ c.if-paints.true)
    (ap not c.are_both.ensures)

pub returns-then-takes_names-clause-walked : goal.returns-then-takes_names-clause-walked
returns-then-takes_names-clause-walked c first front text next h =
    first_taking first c.args.self.now front _ text c.args._behind.now h _
    (sym (ap (λ (k : Kind). paints (shown_kind k)) c.kind-kind.ensures) ∙ sym c.paints.ensures ∙ c.if-paints.false)
    (sym (ap (λ (k : Kind). takes_names (shown_kind k)) c.kind-kind.ensures) ∙ sym c.takes_names.ensures
    ∙ c.if-takes_names.true)
    refl

pub returns-clause-walked : goal.returns-clause-walked
returns-clause-walked c first front text next h =
    first_other first c.args.self.now front _ text c.args._behind.now h _
    (sym (ap (λ (k : Kind). paints (shown_kind k)) c.kind-kind.ensures) ∙ sym c.paints.ensures ∙ c.if-paints.false)
    (sym (ap (λ (k : Kind). takes_names (shown_kind k)) c.kind-kind.ensures) ∙ sym c.takes_names.ensures
    ∙ c.if-takes_names.false)
    refl (rw c.kind-kind.ensures at c.after-self.ensures)
