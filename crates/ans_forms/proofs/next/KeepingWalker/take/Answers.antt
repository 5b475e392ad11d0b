use Rattle.std.proofs.Common.{arith}
use Rattle.ans_forms.proofs.KeptSteps.{stays_past}
use Rattle.ans_forms.proofs.next.KeepingWalker.take.Goals as goal

pub returns-clause-walked : goal.returns-clause-walked
returns-clause-walked c first front behind next h =
    stays_past first.before c.args.self.now _ c.args._offset c.args._run.now behind front
    (λ k early. omega (arith, c.type_inv._run k)) c.requires.some c.with_glyphs-self.ensures next h
