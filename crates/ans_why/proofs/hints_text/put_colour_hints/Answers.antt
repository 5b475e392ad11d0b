use Rattle.ans_write.proofs.PutsLemmas.{Puts-then}
use Rattle.ans_why.proofs.hints_text.put_colour_hints.Goals as goal

pub returns : goal.returns
returns g c =
    Puts-then c.put_counted_line.ensures
    (Puts-then c.put_counted_line-2.ensures
    (Puts-then c.put_counted_line-3.ensures (rw c.much_dark.ensures at c.put_counted_line-4.ensures)))
