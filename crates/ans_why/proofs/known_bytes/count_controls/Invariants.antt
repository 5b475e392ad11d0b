use Rattle.std.proofs.Common.{◌≡◌, count_by, take}
use Rattle.ans_why.specs.Known.{is_control}
use Rattle.ans_why.proofs.known_bytes.count_controls.Given as goal

abbrev pub invariant-loop-i : goal.invariant-loop-i
invariant-loop-i l = l.count ≡ count_by is_control (take l.i l.bytes)
