use Rattle.std.proofs.Common.{rules, ◌≡◌}
use Rattle.ans_sauce.specs.Parts.{notes_of}
use Rattle.ans_write.proofs.PutsLemmas.{Puts-then}
use Rattle.ans_table.proofs.columns.put_parts.Goals as goal

pub returns : goal.returns
returns g c =
    let notes : c.as_slice.result.now ≡ notes_of c.args.parts.now = search rules in
    Puts-then (rw c.content.ensures at c.put_number.ensures)
    (Puts-then (rw notes at c.put_labels.ensures) c.put.ensures)
