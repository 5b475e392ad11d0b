use Rattle.std.proofs.Common.{ap}
use Rattle.ans_write.proofs.PutsLemmas.{Puts-same, Puts-then}
use Rattle.ans_table.specs.Columns.{content_columns, record_columns, stated_columns}
use Rattle.ans_table.proofs.row_text.put_columns.Goals as goal

pub returns-clause-puts : goal.returns-clause-puts
returns-clause-puts g c =
    Puts-then c.put_verdict.ensures
    (Puts-then (Puts-same (ap stated_columns c.sauce_of-sauce.ensures) c.put_stated_size.ensures)
    (Puts-then (Puts-same (ap content_columns c.parts_of.ensures) c.put_content.ensures)
    (Puts-then (Puts-same (ap record_columns c.sauce_of-sauce.ensures) c.put_record.ensures)
    c.put_name.ensures.puts)))
