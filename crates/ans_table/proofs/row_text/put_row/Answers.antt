use Rattle.ans_write.proofs.PutsLemmas.{Puts-then}
use Rattle.ans_table.proofs.row_text.put_row.Goals as goal

pub returns-clause-puts : goal.returns-clause-puts
returns-clause-puts g c = Puts-then c.put_columns.ensures.puts c.put.ensures
