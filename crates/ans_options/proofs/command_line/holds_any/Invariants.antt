use Rattle.std.proofs.Common.{◌≡◌, map, drop}
use Rattle.std.specs.List.{list_any}
use Rattle.clap.specs.Words.{found_of, rows_of}
use Rattle.ans_model.specs.MendFlags.{row_of_flag}
use Rattle.ans_options.specs.CommandLine.{holds_flag}
use Rattle.ans_options.proofs.command_line.holds_any.Given as goal

abbrev pub invariant-loop-flag : goal.invariant-loop-flag
invariant-loop-flag l =
    list_any (λ f. holds_flag f.name (rows_of (found_of l.matches))) (map row_of_flag (drop l.flag-index l.flags))
    ≡ list_any (λ f. holds_flag f.name (rows_of (found_of l.matches))) (map row_of_flag l.flags)
