use Rattle.std.proofs.Common.{refl, arith}
use Rattle.ans_pens.proofs.GoodFound.{play_stops, play_goes_on}
use Rattle.ans_pens.proofs.lines.ClearedPlayWalker.token.Goals as goal

pub returns-then-not-is_faultless-clause-walked : goal.returns-then-not-is_faultless-clause-walked
returns-then-not-is_faultless-clause-walked c first front text next h =
    play_stops first c.args.self.now front.tokens _ h (omega (arith, c.requires.ready.cursor.1))
    (λ s e room. let no = (rw c.kind-kind.ensures at (c.is_faultless.ensures s e)).1 room in
    absurd (cc (no, c.if-not-is_faultless.true)))

pub returns-clause-walked : goal.returns-clause-walked
returns-clause-walked c first front text next h =
    play_goes_on first c.args.self.now front.tokens _ h (omega (arith, c.requires.ready.cursor.1)) _ refl
    (λ s e. (rw c.kind-kind.ensures at (c.is_faultless.ensures s e)).0 (cc (c.if-not-is_faultless.false)))
    (rw c.kind-kind.ensures at c.step.ensures.pen)
