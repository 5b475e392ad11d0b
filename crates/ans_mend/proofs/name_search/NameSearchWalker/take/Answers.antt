use Rattle.std.proofs.Common.{ℕ, None, arith, ap}
use Rattle.ans_mend.proofs.SearchSteps.{printed_past}
use Rattle.ans_mend.proofs.name_search.NameSearchWalker.take.Goals as goal

pub returns-clause-walked : goal.returns-clause-walked
returns-clause-walked c first front behind next h =
    printed_past first c.args.self.now _ c.args._offset c.args.run.now behind front
    (λ k early. omega (arith, c.type_inv.run k)) c.requires.takes c.requires.some
    (ap (λ (n : ℕ). record c.args.self.now { taking = None; behind = n }) c.saturating_sub-self.ensures) next h
