use Rattle.std.proofs.Common.{◌≡◌, ◌++◌, map, drop, string_bytes}
use Rattle.ans_model.specs.Text.Words.{texts_of}
use Rattle.ans_check.proofs.answering.byte_views.Given as goal

abbrev pub invariant-loop-name : goal.invariant-loop-name
invariant-loop-name l =
    texts_of l.views.items ++ map string_bytes (drop l.name-index l.names) ≡ map string_bytes l.names
