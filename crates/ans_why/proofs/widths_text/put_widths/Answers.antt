use Rattle.ans_write.proofs.PutsLemmas.{Puts-then}
use Rattle.ans_why.proofs.widths_text.put_widths.Goals as goal

pub returns : goal.returns
returns g c =
    Puts-then (rw c.lines.ensures.lines at c.put_fitting_lines.ensures) c.put_exchanged_line.ensures
