use Rattle.ans_write.proofs.PutsLemmas.{Puts-then}
use Rattle.ans_mend.proofs.mended_text.put_mended.Goals as goal

pub returns : goal.returns
returns g c =
    Puts-then c.put_tail_line.ensures
    (Puts-then c.put_record_line.ensures
    (Puts-then c.put_width_line.ensures
    (Puts-then c.put_comments_line.ensures
    (Puts-then c.put_older_line.ensures
    (Puts-then c.put_times_line.ensures
    (Puts-then c.put_taken_lines.ensures
    (Puts-then (rw c.has_switch.ensures at c.put_flag_line.ensures)
    (Puts-then c.put_times_line-2.ensures
    (Puts-then c.put_times_line-3.ensures
    (Puts-then c.put_times_line-4.ensures
    (Puts-then c.put_reset_line.ensures
    (Puts-then c.put_end_mark_line.ensures
    (Puts-then c.put_front_line.ensures (Puts-then c.put_reset_line-2.ensures c.put_idle_lines.ensures))))))))))))))
