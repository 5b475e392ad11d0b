use Rattle.std.proofs.Common.{◌≡◌, map, drop}
use Rattle.clap.specs.Words.{found_of, rows_of}
use Rattle.ans_model.specs.MendFlags.{row_of_flag, with_given}
use Rattle.ans_options.specs.CommandLine.{holds_flag}
use Rattle.ans_options.proofs.command_line.with_given.Given as goal

abbrev pub invariant-loop-flag : goal.invariant-loop-flag
invariant-loop-flag l =
    with_given (λ f. holds_flag f.name (rows_of (found_of l.matches))) l.mends
    (map row_of_flag (drop l.flag-index l.flags))
    ≡ with_given (λ f. holds_flag f.name (rows_of (found_of l.matches))) l.fn.mends (map row_of_flag l.flags)
