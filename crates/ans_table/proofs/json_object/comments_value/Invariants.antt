use Rattle.std.proofs.Common.{◌≡◌, ◌++◌, ◌-◌, map}
use Rattle.serde_json.specs.Data.{string}
use Rattle.serde_json.specs.View.{view}
use Rattle.ans_model.specs.File.Record.{comment_count}
use Rattle.ans_sauce.specs.Parts.{comments_of, record_of}
use Rattle.ans_table.specs.JsonRow.{comment_texts, comments_from}
use Rattle.ans_table.proofs.json_object.comments_value.Given as goal

abbrev pub invariant-loop-i : goal.invariant-loop-i
invariant-loop-i l =
    map view l.list.items
    ++ map string (comments_from l.i (comment_count (record_of l.parts) - l.i) (comments_of l.parts))
    ≡ map string (comment_texts l.parts)
