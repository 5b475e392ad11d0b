use Rattle.std.proofs.Common.{take}
use Rattle.std.specs.List.{flat_map}
use Rattle.ans_write.specs.Puts.{Puts}
use Rattle.ans_report.specs.Words.{later_view}
use Rattle.ans_report.proofs.lines.put_later_words.Given as goal

abbrev pub invariant-loop-word : goal.invariant-loop-word
invariant-loop-word g l =
    Puts g.W.Write.contents l.fn.out l.out (flat_map later_view (take l.word-index l.words))
