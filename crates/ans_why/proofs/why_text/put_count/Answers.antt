use Rattle.ans_write.proofs.PutsLemmas.{Puts-same, Puts-then}
use Rattle.ans_report.specs.Counted.{counted_text}
use Rattle.ans_why.proofs.WhyLines.{found_count}
use Rattle.ans_why.proofs.why_text.put_count.Goals as goal

pub returns : goal.returns
returns g c =
    Puts-same (found_count (counted_text c.args.count c.args.thing.now) c.args.what.now)
    (Puts-then c.put.ensures (Puts-then c.put_counted.ensures (Puts-then c.put-2.ensures c.put-3.ensures)))
