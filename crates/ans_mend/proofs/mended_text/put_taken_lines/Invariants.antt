use Rattle.std.proofs.Common.{take}
use Rattle.std.specs.List.{flat_map}
use Rattle.ans_write.specs.Puts.{Puts}
use Rattle.ans_mend.specs.MendedText.{taken_line}
use Rattle.ans_mend.proofs.mended_text.put_taken_lines.Given as goal

abbrev pub invariant-loop-taken : goal.invariant-loop-taken
invariant-loop-taken g l = Puts g.W.Write.contents l.fn.out l.out (flat_map taken_line (take l.taken-index l.kinds))
