use Rattle.std.proofs.Common.{◌≡◌, drop}
use Rattle.std.specs.Prelude.{find}
use Rattle.std.specs.Str.{bytes_eq}
use Rattle.ans_options.specs.CommandLine.{command_name}
use Rattle.ans_options.proofs.command_line.command_among.Given as goal

abbrev pub invariant-loop-command : goal.invariant-loop-command
invariant-loop-command l =
    find (λ c. bytes_eq (command_name c) l.name) (drop l.command-index l.commands)
    ≡ find (λ c. bytes_eq (command_name c) l.name) l.commands
