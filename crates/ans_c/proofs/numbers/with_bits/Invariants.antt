use Rattle.std.proofs.Common.{◌≡◌, map, drop}
use Rattle.ans_model.specs.MendFlags.{row_of_flag, with_given}
use Rattle.ans_c.specs.Numbers.{has_bit}
use Rattle.ans_c.proofs.numbers.with_bits.Given as goal

abbrev pub invariant-loop-flag : goal.invariant-loop-flag
invariant-loop-flag l =
    with_given (λ f. has_bit l.bits f.bit) l.mends (map row_of_flag (drop l.flag-index l.flags))
    ≡ with_given (λ f. has_bit l.bits f.bit) l.fn.mends (map row_of_flag l.flags)
