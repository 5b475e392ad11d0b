use Rattle.std.proofs.Common.{ℕ, ◌+◌, ◌-◌, ◌/◌, arith}
use Rattle.ans_mend.proofs.FrontsPass.{passes_with_fewer}
use Rattle.ans_mend.proofs.last_ends.most_passing.Goals as goal

pub halves-preserved : goal.halves-preserved
halves-preserved c =
    let h = c.halves.invariant in
    let middle : ℕ = c.halves.passing + (c.halves.refused - c.halves.passing) / 2 in
    record {
      passes = h.passes;
      refuses = λ more le within passes.
          let front = passes_with_fewer c.args.size c.args.bytes.now c.args.enough middle more c.requires.ends
          (omega (arith, h.from)) le within passes in
          absurd (cc (c.is_good.ensures.1 front, c.if-is_good.false));
      from = h.from;
      order = omega (arith, c.halves-test.true);
      most = omega (arith, h.order, h.most);
    }

pub returns-clause-most : goal.returns-clause-most
returns-clause-most c more lt =
    c.halves.invariant.refuses more (omega (arith, lt, c.halves-test.false, c.halves.invariant.order))
