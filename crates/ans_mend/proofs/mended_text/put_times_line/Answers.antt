use Rattle.std.proofs.Common.{ap, sym}
use Rattle.ans_write.proofs.PutsLemmas.{Puts-same, Puts-then}
use Rattle.ans_mend.specs.MendedText.{times_line}
use Rattle.ans_mend.proofs.mended_text.put_times_line.Goals as goal

pub returns-in-Some : goal.returns-in-Some
returns-in-Some g c =
    Puts-same (sym (ap (times_line c.args.done.now c.args.one.now c.args.several.now) c.in-Some.is))
    (Puts-then c.put.ensures
    (Puts-then c.put_decimal.ensures
    (Puts-then (rw c.by_count.ensures at c.put-in-Some.ensures) (Puts-then c.put_at.ensures c.put-in-Some-2.ensures))))
