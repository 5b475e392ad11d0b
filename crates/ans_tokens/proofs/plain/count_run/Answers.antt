use Rattle.std.proofs.Common.{IsTrue, arith}
use Rattle.ans_tokens.specs.Walk.{is_plain}
use Rattle.ans_tokens.proofs.PlainFront.{last_plainly}
use Rattle.ans_tokens.proofs.TextFront.{first_fewer}
use Rattle.ans_tokens.proofs.plain.count_run.Goals as goal

pub returns-else-begins_plainly-clause-plain : goal.returns-else-begins_plainly-clause-plain
returns-else-begins_plainly-clause-plain c =
    first_fewer (λ byte. IsTrue (is_plain byte)) c.args.bytes.now c.saturating_sub.result c.count_plain-count.result
    (omega (arith, c.saturating_sub.ensures)) c.count_plain-count.ensures.plain

pub returns-else-begins_plainly-clause-ends : goal.returns-else-begins_plainly-clause-ends
returns-else-begins_plainly-clause-ends c some =
    rw c.saturating_sub.ensures (last_plainly c.args.bytes.now c.count_plain-count.result
    (omega (arith, c.count_plain-count.ensures.within)) c.count_plain-count.ensures.plain
    (omega (arith, some, c.saturating_sub.ensures)))
