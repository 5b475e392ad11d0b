use Rattle.std.proofs.Common.{◌≡◌, ◌++◌, map, drop, string_bytes}
use Rattle.ans_model.specs.Text.Words.{texts_of}
use Rattle.ans_options.proofs.command_line.texts_owned.Given as goal

abbrev pub invariant-loop-text : goal.invariant-loop-text
invariant-loop-text l =
    map string_bytes l.owned.items ++ texts_of (drop l.text-index l.texts) ≡ texts_of l.texts
