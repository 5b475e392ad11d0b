use Rattle.std.proofs.Common.{arith, ap, subst, sym, true}
use Rattle.ans_pens.specs.Walkers.{HasPlayed}
use Rattle.ans_pens.specs.declared.lines.ClearedPlay.{ClearedPlay}
use Rattle.ans_pens.specs.declared.pen.Pen.{Pen}
use Rattle.ans_tokens.specs.Walk.{front_past}
use Rattle.ans_pens.proofs.RunsPlayed.{walked_play}
use Rattle.ans_pens.proofs.lines.ClearedPlayWalker.take.Goals as goal

pub returns-clause-walked : goal.returns-clause-walked
returns-clause-walked c first front behind next h =
    let old = c.args.self.now in
    subst (λ (w : ClearedPlay). HasPlayed first (front_past front c.args.run.now behind).tokens true w)
    (sym (ap (λ (p : Pen). record old { pen = p }) c.go_on.ensures.pen))
    (walked_play first old front c.args.run.now behind c.args._offset h (λ k l. omega (arith, c.type_inv.run k)) next
    c.requires.takes)
