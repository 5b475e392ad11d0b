use Rattle.std.proofs.Common.{refl, sym, ◌∙◌}
use Rattle.ans_forms.proofs.KeptSteps.{goes_on, stops_at}
use Rattle.ans_forms.proofs.next.KeepingWalker.token.Goals as goal

pub returns-then-stays-clause-walked : goal.returns-then-stays-clause-walked
returns-then-stays-clause-walked c first front text next h =
    goes_on first.before front c.args.self.now c.args.token.now text _ next h _
    (sym (rw c.kind-kind.ensures at c.stays.ensures) ∙ c.if-stays.true)
    (rw c.kind-kind.ensures at c.with-self.ensures)

pub returns-clause-walked : goal.returns-clause-walked
returns-clause-walked c first front text next h =
    stops_at first.before front c.args.self.now c.args.token.now text _ next h _
    (sym (rw c.kind-kind.ensures at c.stays.ensures) ∙ c.if-stays.false) refl c.start-self.ensures
    c.length-self.ensures (rw c.kind-kind.ensures at c.is_keys-self.ensures)
