use Rattle.ans_report.specs.FaultTold.{fault_told}
use Rattle.ans_write.proofs.PutsLemmas.{Puts-same, Puts-then}
use Rattle.ans_why.specs.WhyText.{blamed_text}
use Rattle.ans_why.proofs.WhyLines.{blamed_line_is}
use Rattle.ans_why.proofs.why_text.put_blamed_line.Goals as goal

pub returns : goal.returns
returns g c =
    Puts-same (blamed_line_is c.args.name.now (fault_told c.args.fault.now) (blamed_text c.args.bytes.now))
    (Puts-then c.put.ensures
    (Puts-then c.put-2.ensures
    (Puts-then c.put_fault.ensures (Puts-then c.put_blamed.ensures c.put-3.ensures))))
