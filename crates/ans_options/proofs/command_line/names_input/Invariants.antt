use Rattle.std.proofs.Common.{◌≡◌, codes, drop, map, string_bytes}
use Rattle.std.specs.List.{list_any}
use Rattle.std.specs.Str.{bytes_eq}
use Rattle.ans_options.proofs.command_line.names_input.Given as goal

abbrev pub invariant-loop-name : goal.invariant-loop-name
invariant-loop-name l = list_any (bytes_eq (codes "-")) (map string_bytes (drop l.name-index l.names))
    ≡ list_any (bytes_eq (codes "-")) (map string_bytes l.names)
