use Rattle.ans_write.proofs.PutsLemmas.{Puts-then}
use Rattle.ans_mend.proofs.idle.put_idle_lines.Goals as goal

pub returns : goal.returns
returns g c =
    Puts-then (rw c.idle_record.ensures at c.put_idle.ensures)
    (Puts-then (rw c.idle_columns.ensures at c.put_idle-2.ensures)
    (Puts-then (rw c.idle_comments.ensures at c.put_idle-3.ensures)
    (Puts-then (rw (c.idle_crlf.ensures, c.crlf_reason.ensures) at c.put_idle-4.ensures)
    (Puts-then (rw c.idle_take_out.ensures at c.put_idle-5.ensures)
    (Puts-then (rw c.idle_ice.ensures at c.put_idle-6.ensures)
    (Puts-then (rw (c.idle_join_rows.ensures, c.rows_reason.ensures) at c.put_idle-7.ensures)
    (Puts-then (rw c.idle_mixed.ensures at c.put_idle-8.ensures)
    (Puts-then (rw c.idle_colours.ensures at c.put_idle-9.ensures)
    (Puts-then (rw c.idle_lines.ensures at c.put_idle-10.ensures)
    (rw c.idle_least.ensures at c.put_idle-11.ensures))))))))))
