use Rattle.ans_model.specs.Text.RecordText.{comment_lines}
use Rattle.ans_sauce.specs.Parts.{comments_of}
use Rattle.ans_write.specs.Puts.{Puts}
use Rattle.ans_report.proofs.record_text.put_comments.Given as goal

abbrev pub invariant-loop-i : goal.invariant-loop-i
invariant-loop-i g l = Puts g.W.Write.contents l.fn.out l.out (comment_lines 0 l.i (comments_of l.parts))
