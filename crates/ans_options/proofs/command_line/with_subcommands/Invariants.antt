use Rattle.std.proofs.Common.{◌≡◌, drop}
use Rattle.clap.specs.Words.{app_of}
use Rattle.ans_options.specs.CommandLine.{with_subcommands}
use Rattle.ans_options.proofs.command_line.with_subcommands.Given as goal

abbrev pub invariant-loop-command : goal.invariant-loop-command
invariant-loop-command l =
    with_subcommands (app_of l.program) (drop l.command-index l.commands)
    ≡ with_subcommands (app_of l.fn.program) l.commands
