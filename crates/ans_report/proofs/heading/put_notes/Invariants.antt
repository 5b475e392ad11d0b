use Rattle.std.proofs.Common.{take}
use Rattle.std.specs.List.{flat_map}
use Rattle.ans_model.specs.Text.FaultText.{note_line}
use Rattle.ans_write.specs.Puts.{Puts}
use Rattle.ans_report.proofs.heading.put_notes.Given as goal

abbrev pub invariant-loop-note : goal.invariant-loop-note
invariant-loop-note g l = Puts g.W.Write.contents l.fn.out l.out (flat_map note_line (take l.note-index l.notes))
