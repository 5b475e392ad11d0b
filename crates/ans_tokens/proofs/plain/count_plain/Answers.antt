use Rattle.std.proofs.Common.{◌+◌, arith, refl}
use Rattle.ans_tokens.proofs.PlainFront.{IsPlainFront, plain_fewer, plain_more, plain_sign}
use Rattle.ans_tokens.proofs.plain.count_plain.Goals as goal
use Rattle.ans_tokens.proofs.plain.count_plain.Goals.{
  then-loop-count-test+else-bytes-count-gt16,
  else-loop-count-test,
  then-loop-count-test+then-bytes-count-gt16+then-plain-lt16+then-not-begins_with_sign,
}

pub loop-count-preserved : goal.loop-count-preserved
loop-count-preserved c =
    plain_more c.args.bytes.now c.loop-count.count c.plain_of_chunk-plain.result (omega arith)
    c.loop-count.invariant c.plain_of_chunk-plain.ensures.plain

-- over a sign
pub loop-count-preserved-then-plain-lt16 : goal.loop-count-preserved-then-plain-lt16
loop-count-preserved-then-plain-lt16 c =
    let bytes = c.args.bytes.now in
    let found = c.plain_of_chunk-plain in
    let sign = c.if-not-begins_with_sign.ensures in
    plain_sign bytes (c.loop-count.count + found.result) (omega arith)
    (plain_more bytes c.loop-count.count found.result (omega arith) c.loop-count.invariant found.ensures.plain)
    (sign.plain refl) (sign.code refl)

counted : (c : goal.After-min) → IsPlainFront c.args.bytes.now c.min.result
counted c =
    plain_fewer c.args.bytes.now c.min.result c.loop-count-test.count (omega arith) (
    elim c.loop-count-test.branch [
      | then-loop-count-test+else-bytes-count-gt16 w ↦ rw w.count-is c.loop-count.invariant
      | else-loop-count-test w ↦ rw w.count-is c.loop-count.invariant
      | then-loop-count-test+then-bytes-count-gt16+then-plain-lt16+then-not-begins_with_sign w ↦ rw w.count-is
          (plain_more c.args.bytes.now c.loop-count.count w.plain_of_chunk-plain.result (omega arith)
          c.loop-count.invariant w.plain_of_chunk-plain.ensures.plain)
    ])

pub returns-clause-plain : goal.returns-clause-plain
returns-clause-plain c = (counted c).plain

pub returns-clause-codes : goal.returns-clause-codes
returns-clause-codes c = (counted c).codes
