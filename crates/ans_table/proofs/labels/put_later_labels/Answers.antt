use Rattle.ans_table.specs.Labels.{later_label}
use Rattle.ans_write.proofs.PutsLemmas.{Puts-then, Puts-next}
use Rattle.ans_table.proofs.labels.put_later_labels.Goals as goal

pub loop-note-preserved : goal.loop-note-preserved
loop-note-preserved g c =
    Puts-next later_label c.args.notes.now c.loop-note.note-index _ c.loop-note-test.true c.loop-note.invariant
    (Puts-then c.put.ensures c.put_label.ensures)
