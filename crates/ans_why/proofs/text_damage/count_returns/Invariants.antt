use Rattle.std.proofs.Common.{◌≡◌, take}
use Rattle.std.specs.List.{count_by}
use Rattle.ans_why.specs.TextDamage.{is_return}
use Rattle.ans_why.proofs.text_damage.count_returns.Given as goal

-- they are those of the bytes so far
abbrev pub invariant-loop-byte : goal.invariant-loop-byte
invariant-loop-byte l = l.count ≡ count_by is_return (take l.byte-index l.fn.bytes)
