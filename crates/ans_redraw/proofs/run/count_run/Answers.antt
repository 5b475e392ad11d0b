use Rattle.std.proofs.Common.{get_or, arith}
use Rattle.ans_redraw.proofs.Places.{coloured_no_blank, other_no_blank}
use Rattle.ans_redraw.proofs.run.count_run.Goals as goal

pub returns-then-attribute-ne-GREY-clause-no_blanks : goal.returns-then-attribute-ne-GREY-clause-no_blanks
returns-then-attribute-ne-GREY-clause-no_blanks c = λ k lt.
    coloured_no_blank (get_or c.args.bytes.now k 0) c.args.attribute c.if-attribute-ne-GREY.true

pub returns-clause-same : goal.returns-clause-same
returns-clause-same c = λ k lt. c.count_same-same.ensures.same k (omega arith)

pub returns-clause-no_blanks : goal.returns-clause-no_blanks
returns-clause-no_blanks c = λ k lt.
    other_no_blank (get_or c.args.bytes.now k 0) c.args.attribute (c.count_before.ensures.others k (omega arith))
