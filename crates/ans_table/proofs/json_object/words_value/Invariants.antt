use Rattle.std.proofs.Common.{◌≡◌, ◌++◌, drop, map}
use Rattle.serde_json.specs.Data.{string}
use Rattle.serde_json.specs.View.{view}
use Rattle.ans_model.specs.Text.Words.{texts_of}
use Rattle.ans_table.proofs.json_object.words_value.Given as goal

abbrev pub invariant-loop-word : goal.invariant-loop-word
invariant-loop-word l =
    map view l.list.items ++ map string (texts_of (drop l.word-index l.words)) ≡ map string (texts_of l.words)
