use Rattle.std.proofs.Common.{arith, ap₂, subst, sym, true}
use Rattle.ans_pens.specs.Walkers.{HasMoved}
use Rattle.ans_pens.specs.declared.pen.Pen.{Pen}
use Rattle.ans_pens.specs.declared.taller.Moves.{Moves}
use Rattle.ans_tokens.specs.Walk.{front_past}
use Rattle.ans_pens.proofs.RunsPlayed.{walked_moves}
use Rattle.ans_pens.proofs.taller.MovesWalker.take.Goals as goal

pub returns-clause-walked : goal.returns-clause-walked
returns-clause-walked c first front behind next h =
    let old = c.args.self.now in
    subst (λ (w : Moves). HasMoved first (front_past front c.args.run.now behind).tokens true w)
    (sym (ap₂ (λ (p q : Pen). record old { low = p; high = q }) c.go_on.ensures.pen c.go_on-2.ensures.pen))
    (walked_moves first old front c.args.run.now behind c.args._offset h (λ k l. omega (arith, c.type_inv.run k)) next
    c.requires.takes)
