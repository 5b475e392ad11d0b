use Rattle.std.proofs.Common.{decimal}
use Rattle.ans_write.proofs.PutsLemmas.{Puts-same, Puts-then}
use Rattle.ans_why.specs.WhyText.{returns_text}
use Rattle.ans_why.proofs.WhyLines.{found_grown}
use Rattle.ans_why.proofs.why_text.put_grown_found.Goals as goal

pub returns : goal.returns
returns g c =
    Puts-same (found_grown (decimal c.args.offset) (decimal c.args.bytes) (decimal c.args.returns)
    (returns_text c.args.returns))
    (Puts-then c.put_numbers.ensures
    (Puts-then c.put.ensures
    (Puts-then c.put_decimal.ensures
    (Puts-then (rw c.returns_text.ensures at c.put-2.ensures) c.put-3.ensures))))
