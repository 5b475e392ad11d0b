use Rattle.ans_write.proofs.PutsLemmas.{Puts-then}
use Rattle.ans_why.proofs.hints_text.put_row_hints.Goals as goal

pub returns : goal.returns
returns g c =
    Puts-then (rw c.bare_line_feeds.ensures at c.put_counted_line.ensures)
    (Puts-then (rw (c.ended_rows.ensures, c.are_all_ended.ensures) at c.put_counted_line-2.ensures)
    (Puts-then c.put_wider_line.ensures c.put_counted_line-3.ensures))
