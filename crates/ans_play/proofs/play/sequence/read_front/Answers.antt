use Rattle.std.proofs.Common.{arith}
use Rattle.ans_play.proofs.Brushes.{reading_begun, reading_on, reading_ends}
use Rattle.ans_play.proofs.play.sequence.read_front.Goals as goal

pub loop-semicolons-init : goal.loop-semicolons-init
loop-semicolons-init c =
    reading_begun c.args.bytes.now c.args.attribute c.requires c.if-bytes-ne-ESCAPE.false c.if-bytes-ne91.false

pub returns-then-letter-ne59 : goal.returns-then-letter-ne59
returns-then-letter-ne59 c =
    let here = c.loop-semicolons.invariant in
    reading_ends c.args.bytes.now c.args.attribute c.loop-semicolons.semicolons c.loop-semicolons.at
    c.loop-semicolons.previous c.in_ok-last.last c.in_ok-last.digits c.loop-semicolons.coloured
    (omega (arith, here.high, c.requires, c.loop-semicolons-test.true)) c.loop-semicolons-test.true here
    c.in_ok-last.ensures.number

pub loop-semicolons-preserved : goal.loop-semicolons-preserved
loop-semicolons-preserved c =
    let here = c.loop-semicolons.invariant in
    reading_on c.args.bytes.now c.args.attribute c.loop-semicolons.semicolons c.loop-semicolons.at
    c.loop-semicolons.previous c.in_ok-last.last c.in_ok-last.digits c.loop-semicolons.coloured
    c.apply-coloured.result (omega (arith, here.high, c.requires, c.loop-semicolons-test.true))
    c.loop-semicolons-test.true here c.in_ok-last.ensures.number c.in_ok-last.ensures.short c.if-letter-ne59.false
    c.apply-coloured.ensures.bits
