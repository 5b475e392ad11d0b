use Rattle.std.proofs.Common.{ℕ, not, get_or, arith}
use Rattle.std.specs.Prelude.{◌==◌}
use Rattle.ans_redraw.proofs.Places.{before_first, first_within, in_none, same_byte}
use Rattle.ans_redraw.proofs.run.count_same.Goals as goal

pub returns-then-mask-eq0-clause-same : goal.returns-then-mask-eq0-clause-same
returns-then-mask-eq0-clause-same c = λ k lt.
    same_byte (get_or c.args.bytes.now k 0) c.args.byte
    (in_none (λ (b : ℕ). not (b == c.args.byte)) c.args.bytes.now c.others-mask.result c.requires c.others-mask.ensures
    c.if-mask-eq0.true k lt)

pub returns-else-mask-eq0-clause-within : goal.returns-else-mask-eq0-clause-within
returns-else-mask-eq0-clause-within c =
    first_within (λ (b : ℕ). not (b == c.args.byte)) c.args.bytes.now c.others-mask.result c.requires
    c.others-mask.ensures (omega arith)

pub returns-else-mask-eq0-clause-same : goal.returns-else-mask-eq0-clause-same
returns-else-mask-eq0-clause-same c = λ k lt.
    same_byte (get_or c.args.bytes.now k 0) c.args.byte
    (before_first (λ (b : ℕ). not (b == c.args.byte)) c.args.bytes.now c.others-mask.result c.requires
    c.others-mask.ensures (omega arith) k lt)
