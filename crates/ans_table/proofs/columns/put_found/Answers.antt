use Rattle.std.proofs.Common.{ap, sym}
use Rattle.ans_write.proofs.PutsLemmas.{Puts-same, Puts-then}
use Rattle.ans_table.specs.Columns.{found_columns}
use Rattle.ans_table.proofs.columns.put_found.Goals as goal

pub returns-in-NoContent : goal.returns-in-NoContent
returns-in-NoContent g c =
    Puts-same (sym (ap found_columns c.in-NoContent.is)) (Puts-then c.put_fault.ensures c.put.ensures)

pub returns-in-Refused : goal.returns-in-Refused
returns-in-Refused g c =
    Puts-same (sym (ap found_columns c.in-Refused.is))
    (Puts-then c.put_fault-in-Refused.ensures
    (Puts-then c.put_number.ensures c.put_number-in-Refused.ensures))
