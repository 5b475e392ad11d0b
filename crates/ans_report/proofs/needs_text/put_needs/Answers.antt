use Rattle.std.proofs.Common.{ap, sym}
use Rattle.ans_write.proofs.PutsLemmas.{Puts-same}
use Rattle.ans_report.specs.NeedsBytes.{needs_bytes}
use Rattle.ans_report.proofs.needs_text.put_needs.Goals as goal

pub returns-in-Refused : goal.returns-in-Refused
returns-in-Refused g c = Puts-same (sym (ap needs_bytes c.in-Refused.is)) c.put_refused_content.ensures
