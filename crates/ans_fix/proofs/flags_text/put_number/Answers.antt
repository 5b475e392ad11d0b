use Rattle.std.proofs.Common.{ap, sym}
use Rattle.ans_write.proofs.PutsLemmas.{Puts-same, Puts-then}
use Rattle.ans_fix.specs.FlagsText.{number_text}
use Rattle.ans_fix.proofs.flags_text.put_number.Goals as goal

pub returns-in-Some : goal.returns-in-Some
returns-in-Some g c =
    Puts-same (sym (ap (number_text c.args.flag.now) c.in-Some.is)) (Puts-then c.put.ensures c.put_decimal.ensures)
