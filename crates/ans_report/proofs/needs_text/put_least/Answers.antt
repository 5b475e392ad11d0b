use Rattle.ans_write.proofs.PutsLemmas.{Puts-then}
use Rattle.ans_report.proofs.needs_text.put_least.Goals as goal

pub returns : goal.returns
returns g c =
    Puts-then c.put_heading.ensures (Puts-then (Puts-then c.put.ensures c.put_needed_parts.ensures) c.put-2.ensures)
