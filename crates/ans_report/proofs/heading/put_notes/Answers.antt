use Rattle.std.proofs.Common.{rules, ◌≡◌}
use Rattle.ans_model.specs.Text.FaultText.{note_line}
use Rattle.ans_write.proofs.PutsLemmas.{Puts-next}
use Rattle.ans_report.proofs.heading.put_notes.Goals as goal

pub loop-note-preserved : goal.loop-note-preserved
loop-note-preserved g c =
    let text : c.as_bytes.result.now ≡ c.note_text.result.now = search rules in
    Puts-next note_line c.args.notes.now c.loop-note.note-index _ c.loop-note-test.true c.loop-note.invariant
    (rw (text, c.note_text.ensures) at c.put_named_line.ensures)
