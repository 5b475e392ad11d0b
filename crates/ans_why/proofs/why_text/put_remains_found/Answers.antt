use Rattle.std.proofs.Common.{codes, decimal}
use Rattle.ans_write.proofs.PutsLemmas.{Puts-same, Puts-then}
use Rattle.ans_report.specs.Counted.{counted_text}
use Rattle.ans_why.proofs.WhyLines.{found_remains}
use Rattle.ans_why.proofs.why_text.put_remains_found.Goals as goal

pub returns : goal.returns
returns g c =
    Puts-same (found_remains (decimal c.args.offset) (counted_text c.args.bytes (codes "byte")))
    (Puts-then c.put.ensures
    (Puts-then c.put_decimal.ensures
    (Puts-then c.put-2.ensures (Puts-then c.put_counted.ensures c.put-3.ensures))))
