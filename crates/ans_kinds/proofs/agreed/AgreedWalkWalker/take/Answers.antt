use Rattle.std.proofs.Common.{arith, ap₂, subst, sym, true}
use Rattle.ans_kinds.specs.AgreedWalked.{HasStayedAgreed}
use Rattle.ans_kinds.specs.declared.agreed.AgreedWalk.{AgreedWalk}
use Rattle.ans_pens.specs.declared.pen.Pen.{Pen}
use Rattle.ans_tokens.specs.Walk.{front_past}
use Rattle.ans_kinds.proofs.RunsFound.{walked_agreed_run}
use Rattle.ans_kinds.proofs.agreed.AgreedWalkWalker.take.Goals as goal

pub returns-clause-walked : goal.returns-clause-walked
returns-clause-walked c first front behind next h =
    let old = c.args.self.now in
    subst (λ (w : AgreedWalk). HasStayedAgreed first (front_past front c.args.run.now behind) true w)
    (sym (ap₂ (λ (p q : Pen). record old { pen = p; cleared = q }) c.go_on.ensures.pen c.go_on-2.ensures.pen))
    (walked_agreed_run first old front c.args.run.now behind c.args._offset h (λ k l. omega (arith, c.type_inv.run k))
    next c.requires.takes)
