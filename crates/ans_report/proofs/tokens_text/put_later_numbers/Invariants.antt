use Rattle.std.proofs.Common.{take}
use Rattle.std.specs.List.{flat_map}
use Rattle.ans_write.specs.Puts.{Puts}
use Rattle.ans_report.specs.TokenLines.{later_number}
use Rattle.ans_report.proofs.tokens_text.put_later_numbers.Given as goal

abbrev pub invariant-loop-number : goal.invariant-loop-number
invariant-loop-number g l =
    Puts g.W.Write.contents l.fn.out l.out (flat_map later_number (take l.number-index l.numbers))
