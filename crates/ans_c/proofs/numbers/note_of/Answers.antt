use Rattle.std.proofs.Common.{arith}
use Rattle.ans_c.proofs.EachNumber.{no_note}
use Rattle.ans_c.proofs.numbers.note_of.Goals as goal

pub returns-clause-none : goal.returns-clause-none
returns-clause-none c = λ _.
    no_note c.args.number (λ k lt. c.loop-note.invariant k (omega (arith, lt, c.loop-note-test.false)))
