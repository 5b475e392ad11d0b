use Rattle.ans_write.proofs.PutsLemmas.{Puts-then}
use Rattle.ans_redraw.proofs.redrawn_text.put_redrawn.Goals as goal

pub returns : goal.returns
returns g c =
    Puts-then c.put_length_line.ensures (Puts-then c.put_end_mark_line.ensures c.put_reset_line.ensures)
