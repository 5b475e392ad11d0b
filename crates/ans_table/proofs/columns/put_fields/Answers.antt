use Rattle.ans_write.proofs.PutsLemmas.{Puts-then}
use Rattle.ans_table.proofs.columns.put_fields.Goals as goal

pub returns : goal.returns
returns g c =
    Puts-then (rw c.font.ensures at c.put_field.ensures)
    (Puts-then (rw c.date.ensures at c.put_field-2.ensures)
    (Puts-then (rw c.title.ensures at c.put_field-3.ensures)
    (Puts-then (rw c.author.ensures at c.put_field-4.ensures) (rw c.group.ensures at c.put_field-5.ensures))))
