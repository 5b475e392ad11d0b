use Rattle.std.proofs.Common.{◌∙◌, sym, arith}
use Rattle.ans_mend.proofs.NumbersToZero.{other_before, zero_before}
use Rattle.ans_mend.proofs.naming.count_to_zero.Goals as goal

pub numbers-preserved : goal.numbers-preserved
numbers-preserved c =
    let i = c.numbers.invariant in
    let within = i.within in
    record {
      within = omega (arith, within);
      same = other_before c.args.numbers.now c.numbers.count c.numbers-test.true within c.if-numbers-count-ne0.true
          ∙ i.same;
    }

pub returns-else-numbers-count-ne0 : goal.returns-else-numbers-count-ne0
returns-else-numbers-count-ne0 c =
    sym (zero_before c.args.numbers.now c.numbers.count c.numbers-test.true c.numbers.invariant.within
    c.if-numbers-count-ne0.false)
    ∙ c.numbers.invariant.same
