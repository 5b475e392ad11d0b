use Rattle.ans_write.proofs.PutsLemmas.{Puts-then}
use Rattle.ans_table.proofs.row_text.put_pictured_row.Goals as goal

pub returns : goal.returns
returns g c =
    Puts-then (Puts-then c.put_columns.ensures.puts c.put.ensures)
    (Puts-then c.put_present.ensures c.put-2.ensures)
