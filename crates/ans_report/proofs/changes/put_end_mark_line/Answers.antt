use Rattle.std.proofs.Common.{ap, sym}
use Rattle.ans_write.proofs.PutsLemmas.{Puts-same, Puts-then}
use Rattle.ans_report.specs.Changes.{end_mark_line}
use Rattle.ans_report.proofs.changes.put_end_mark_line.Goals as goal

pub returns-in-Some : goal.returns-in-Some
returns-in-Some g c =
    Puts-same (sym (ap end_mark_line c.in-Some.is))
    (Puts-then c.put.ensures (Puts-then c.put_decimal.ensures c.put-in-Some.ensures))
