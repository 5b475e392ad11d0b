use Rattle.std.proofs.Common.{ℕ, arith}
use Rattle.std.specs.Prelude.{◌==◌}
use Rattle.ans_redraw.proofs.Places.{before_first, first_within, in_none}
use Rattle.ans_redraw.proofs.run.count_before.Goals as goal

pub returns-then-mask-eq0-clause-others : goal.returns-then-mask-eq0-clause-others
returns-then-mask-eq0-clause-others c =
    in_none (λ (b : ℕ). b == c.args.byte) c.args.bytes.now c.places-mask.result c.requires c.places-mask.ensures
    c.if-mask-eq0.true

pub returns-else-mask-eq0-clause-within : goal.returns-else-mask-eq0-clause-within
returns-else-mask-eq0-clause-within c =
    first_within (λ (b : ℕ). b == c.args.byte) c.args.bytes.now c.places-mask.result c.requires
    c.places-mask.ensures (omega arith)

pub returns-else-mask-eq0-clause-others : goal.returns-else-mask-eq0-clause-others
returns-else-mask-eq0-clause-others c =
    before_first (λ (b : ℕ). b == c.args.byte) c.args.bytes.now c.places-mask.result c.requires
    c.places-mask.ensures (omega arith)
