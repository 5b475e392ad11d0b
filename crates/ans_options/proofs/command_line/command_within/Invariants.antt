use Rattle.std.proofs.Common.{◌≡◌, drop}
use Rattle.std.specs.Prelude.{find, nat_le}
use Rattle.ans_options.specs.CommandLine.{command_name, edits}
use Rattle.ans_options.proofs.command_line.command_within.Given as goal

abbrev pub invariant-loop-command : goal.invariant-loop-command
invariant-loop-command l =
    find (λ c. nat_le (edits l.word (command_name c)) l.most) (drop l.command-index l.commands)
    ≡ find (λ c. nat_le (edits l.word (command_name c)) l.most) l.commands
