use Rattle.std.proofs.Common.{ap, sym}
use Rattle.ans_write.proofs.PutsLemmas.{Puts-same, Puts-then}
use Rattle.ans_mend.specs.MendedText.{unmended_text}
use Rattle.ans_mend.proofs.helping.put_unmended.Goals as goal

pub returns-in-Refused : goal.returns-in-Refused
returns-in-Refused g c =
    Puts-same (sym (ap (unmended_text c.args.asked.now c.args.without_help.now) c.in-Refused.is))
    (Puts-then c.put_fault_line.ensures (rw c.of-offers.ensures at c.put_help.ensures))

pub returns-in-TakesNoRecord : goal.returns-in-TakesNoRecord
returns-in-TakesNoRecord g c =
    Puts-same (sym (ap (unmended_text c.args.asked.now c.args.without_help.now) c.in-TakesNoRecord.is))
    (Puts-then c.put_fault_line-in-TakesNoRecord.ensures c.put.ensures)

pub returns-in-Torn : goal.returns-in-Torn
returns-in-Torn g c =
    Puts-same (sym (ap (unmended_text c.args.asked.now c.args.without_help.now) c.in-Torn.is))
    (Puts-then c.put-in-Torn.ensures (rw c.of-offers.ensures at c.put_torn_help.ensures))

pub returns-in-NoLines : goal.returns-in-NoLines
returns-in-NoLines g c =
    Puts-same (sym (ap (unmended_text c.args.asked.now c.args.without_help.now) c.in-NoLines.is))
    (Puts-then c.put-in-NoLines.ensures (rw c.of-offers.ensures at c.put_no_lines_help.ensures))

pub returns-in-TooLong : goal.returns-in-TooLong
returns-in-TooLong g c =
    Puts-same (sym (ap (unmended_text c.args.asked.now c.args.without_help.now) c.in-TooLong.is))
    c.put-in-TooLong.ensures
