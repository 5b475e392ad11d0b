use Rattle.std.proofs.Common.{rules, ◌≡◌}
use Rattle.ans_model.specs.Text.FaultText.{note_number}
use Rattle.ans_write.proofs.PutsLemmas.{Puts-then}
use Rattle.ans_table.proofs.labels.put_label.Goals as goal

pub returns : goal.returns
returns g c =
    let number : c.from.result ≡ note_number c.args.note = search rules in
    Puts-then c.put.ensures (rw number at c.put_decimal.ensures)
