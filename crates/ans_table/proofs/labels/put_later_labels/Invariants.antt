use Rattle.std.proofs.Common.{take}
use Rattle.std.specs.List.{flat_map}
use Rattle.ans_write.specs.Puts.{Puts}
use Rattle.ans_table.specs.Labels.{later_label}
use Rattle.ans_table.proofs.labels.put_later_labels.Given as goal

abbrev pub invariant-loop-note : goal.invariant-loop-note
invariant-loop-note g l =
    Puts g.W.Write.contents l.fn.out l.out (flat_map later_label (take l.note-index l.notes))
