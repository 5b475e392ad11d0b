use Rattle.std.proofs.Common.{sym, ap}
use Rattle.ans_write.proofs.PutsLemmas.{Puts-same, Puts-then}
use Rattle.ans_why.specs.WhyText.{reliance_lines}
use Rattle.ans_why.proofs.why_text.put_reliance.Goals as goal

pub returns : goal.returns
returns g c =
    Puts-same (sym (ap reliance_lines c.in-Some.is)) (Puts-then c.put_blamed_line.ensures c.put_shown.ensures)
