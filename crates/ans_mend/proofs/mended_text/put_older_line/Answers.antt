use Rattle.std.proofs.Common.{ap, sym}
use Rattle.ans_write.proofs.PutsLemmas.{Puts-same, Puts-then}
use Rattle.ans_mend.specs.MendedText.{older_line}
use Rattle.ans_mend.proofs.mended_text.put_older_line.Goals as goal

pub returns-in-Some : goal.returns-in-Some
returns-in-Some g c =
    Puts-same (sym (ap older_line c.in-Some.is))
    (Puts-then c.put.ensures
    (Puts-then c.put_counted.ensures
    (Puts-then c.put-in-Some.ensures (Puts-then c.put_decimal.ensures c.put-in-Some-2.ensures))))
