use Rattle.std.proofs.Common.{sym, ap}
use Rattle.ans_model.specs.Text.ReportText.{start_line}
use Rattle.ans_write.proofs.PutsLemmas.{Puts-same, Puts-then}
use Rattle.ans_report.proofs.heading.put_start_line.Goals as goal

pub returns : goal.returns
returns g c =
    Puts-same (sym (ap start_line c.in-Some.is))
    (Puts-then c.put.ensures (Puts-then c.put_start_name.ensures c.put-2.ensures))
