use Rattle.std.proofs.Common.{take}
use Rattle.std.specs.List.{flat_map}
use Rattle.ans_model.specs.MendFlags.{row_of_flag}
use Rattle.ans_write.specs.Puts.{Puts}
use Rattle.ans_fix.specs.FlagsText.{flag_text}
use Rattle.ans_fix.proofs.flags_text.put_each.Given as goal

abbrev pub invariant-loop-flag : goal.invariant-loop-flag
invariant-loop-flag g l =
    Puts g.W.Write.contents l.fn.out l.out
    (flat_map (λ flag. flag_text l.mends (row_of_flag flag)) (take l.flag-index l.flags))
