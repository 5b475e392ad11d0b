use Rattle.std.proofs.Common.{◌≡◌, ◌++◌, map, drop, string_bytes}
use Rattle.ans_model.specs.Text.Words.{texts_of}
use Rattle.ans_check.proofs.naming.views.Given as goal

abbrev pub invariant-loop-text : goal.invariant-loop-text
invariant-loop-text l =
    texts_of l.words.items ++ map string_bytes (drop l.text-index l.texts) ≡ map string_bytes l.texts
