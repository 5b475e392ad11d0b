use Rattle.std.proofs.Common.{◌≡◌, drop, map, string_bytes}
use Rattle.std.specs.List.{list_any}
use Rattle.ans_check.specs.Naming.{names_standard}
use Rattle.ans_check.proofs.answering.names_input.Given as goal

abbrev pub invariant-loop-name : goal.invariant-loop-name
invariant-loop-name l = list_any names_standard (map string_bytes (drop l.name-index l.names))
    ≡ list_any names_standard (map string_bytes l.names)
