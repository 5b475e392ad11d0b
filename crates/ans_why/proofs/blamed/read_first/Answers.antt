use Rattle.std.proofs.Common.{arith}
use Rattle.ans_why.proofs.BlamedLemmas.{none_open, still_open, token_read, refused_read, all_read}
use Rattle.ans_why.proofs.blamed.read_first.Goals as goal

pub loop-i-init : goal.loop-i-init
loop-i-init c = none_open c.args.bytes.now c.new-scanner.result c.new-scanner.ensures

pub byte-requires : goal.byte-requires
byte-requires c = omega (arith, c.loop-i.invariant.offset, c.loop-i-test.true, c.requires)

pub returns-in-Ok-Some : goal.returns-in-Ok-Some
returns-in-Ok-Some c =
    let h = c.loop-i.invariant in
    let token = c.in-Ok-Some in
    token_read c.args.bytes.now c.loop-i.i c.loop-i.scanner h c.loop-i-test.true c.byte.new.self token.field-0-0
    (rw token.field-0-is at (token.ensures.token h.unrefused))

pub returns-in-Err : goal.returns-in-Err
returns-in-Err c =
    let h = c.loop-i.invariant in
    refused_read c.args.bytes.now c.loop-i.i c.loop-i.scanner h c.loop-i-test.true c.in-Err.field-0
    (c.in-Err.ensures.fault h.unrefused)

pub loop-i-preserved : goal.loop-i-preserved
loop-i-preserved c =
    let h = c.loop-i.invariant in
    let byte = c.in-Ok-None.ensures in
    still_open c.args.bytes.now c.loop-i.i c.loop-i.scanner h c.loop-i-test.true c.byte.new.self
    (rw c.in-Ok-None.field-0-is at (byte.unfinished h.unrefused)) byte.taken byte.accepted

pub returns : goal.returns
returns c =
    all_read c.args.bytes.now c.loop-i.i c.loop-i.scanner c.loop-i.invariant (omega (arith, c.loop-i-test.false))
