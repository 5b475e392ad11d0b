use Rattle.std.proofs.Common.{ap, sym}
use Rattle.ans_write.proofs.PutsLemmas.{Puts-same, Puts-then}
use Rattle.ans_redraw.specs.RedrawnText.{unredrawn_text}
use Rattle.ans_redraw.proofs.redrawn_text.put_unredrawn.Goals as goal

pub returns-in-Refused : goal.returns-in-Refused
returns-in-Refused g c =
    Puts-same (sym (ap unredrawn_text c.in-Refused.is)) (Puts-then c.put_fault_line.ensures c.put.ensures)

pub returns-in-TooLong : goal.returns-in-TooLong
returns-in-TooLong g c =
    Puts-same (sym (ap unredrawn_text c.in-TooLong.is))
    (Puts-then c.put-in-TooLong.ensures (Puts-then c.put_decimal.ensures c.put-in-TooLong-2.ensures))
