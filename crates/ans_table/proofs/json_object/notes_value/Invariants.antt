use Rattle.std.proofs.Common.{◌≡◌, ◌++◌, drop, map}
use Rattle.serde_json.specs.Data.{string}
use Rattle.serde_json.specs.View.{view}
use Rattle.ans_table.specs.Labels.{note_label}
use Rattle.ans_table.proofs.json_object.notes_value.Given as goal

abbrev pub invariant-loop-note : goal.invariant-loop-note
invariant-loop-note l =
    map view l.list.items ++ map string (map note_label (drop l.note-index l.notes))
    ≡ map string (map note_label l.notes)
