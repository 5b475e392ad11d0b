use Rattle.std.proofs.Common.{sym, ap}
use Rattle.ans_write.proofs.PutsLemmas.{Puts-same, Puts-then}
use Rattle.ans_why.specs.WhyText.{why_text}
use Rattle.ans_why.proofs.why_text.put_why.Goals as goal

pub returns-in-NoContent : goal.returns-in-NoContent
returns-in-NoContent g c = Puts-same (sym (ap why_text c.in-NoContent.is)) c.put_record_refusal.ensures

pub returns-in-Refused : goal.returns-in-Refused
returns-in-Refused g c =
    Puts-same (sym (ap why_text c.in-Refused.is)) (Puts-then c.put_heading.ensures c.put_refused.ensures)

pub returns-in-Passes : goal.returns-in-Passes
returns-in-Passes g c =
    Puts-same (sym (ap why_text c.in-Passes.is)) (Puts-then c.put_heading-in-Passes.ensures c.put_pass.ensures)
