use Rattle.std.proofs.Common.{◌≡◌, true, sym, ◌∙◌, arith, get_or}
use Rattle.std.specs.Char.{is_ascii_digit}
use Rattle.ans_tokens.proofs.WholeSequences.{one_more_digit}
use Rattle.ans_tokens.proofs.whole.read_digits.Goals as goal

pub loop-i-preserved : goal.loop-i-preserved
loop-i-preserved c =
    let digit : is_ascii_digit (get_or c.args.bytes.now c.loop-i.i 0) ≡ true =
    sym c.is_ascii_digit.ensures.value ∙ c.if-not-is_ascii_digit.false in
    let more = one_more_digit c.args.bytes.now c.loop-i.i c.loop-i.value (omega arith) digit
    c.loop-i.invariant.digits c.loop-i.invariant.value_is in
    record { digits = more.0; value_is = more.1; in_limit = omega arith }
