use Rattle.std.proofs.Common.{◌-◌, sym}
use Rattle.std.proofs.Math.ListN.{get_or-map}
use Rattle.ans_model.specs.Text.FaultText.{note_number}
use Rattle.ans_report.proofs.RowTexts.{NoteRow}
use Rattle.ans_report.proofs.meanings.note_row.Goals as goal

pub returns : goal.returns
returns c =
    let rows = c.args.rows.now in
    let place = note_number c.args.note - 1 in
    rw c.number.ensures (record {
      text = sym (get_or-map (λ (row : NoteRow). row.0.now) rows place _);
      meaning = sym (get_or-map (λ (row : NoteRow). row.1.now) rows place _);
    })
