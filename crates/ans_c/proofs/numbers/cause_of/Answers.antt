use Rattle.std.proofs.Common.{arith}
use Rattle.ans_c.proofs.EachNumber.{no_cause}
use Rattle.ans_c.proofs.numbers.cause_of.Goals as goal

pub returns-clause-none : goal.returns-clause-none
returns-clause-none c = λ _.
    no_cause c.args.number (λ k lt. c.loop-cause.invariant k (omega (arith, lt, c.loop-cause-test.false)))
