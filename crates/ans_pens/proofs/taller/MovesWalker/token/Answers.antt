use Rattle.std.proofs.Common.{refl, arith}
use Rattle.ans_pens.proofs.TallerFound.{stops_at, goes_on_over}
use Rattle.ans_pens.proofs.taller.MovesWalker.token.Goals as goal

pub returns-then-not-is_free-clause-walked : goal.returns-then-not-is_free-clause-walked
returns-then-not-is_free-clause-walked c first front text next h =
    stops_at first c.args.self.now front.tokens _ h (omega (arith, c.requires.ready.0.cursor.1))
    (λ free. let no = (rw c.kind-kind.ensures at c.is_free.ensures).1 free in absurd (cc (no, c.if-not-is_free.true)))

pub returns-clause-walked : goal.returns-clause-walked
returns-clause-walked c first front text next h =
    goes_on_over first c.args.self.now front.tokens _ h (omega (arith, c.requires.ready.0.cursor.1)) _ refl
    ((rw c.kind-kind.ensures at c.is_free.ensures).0 (cc (c.if-not-is_free.false)))
    (rw c.kind-kind.ensures at c.step.ensures.pen) (rw c.kind-kind.ensures at c.step-2.ensures.pen)
