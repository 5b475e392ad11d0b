use Rattle.ans_options.proofs.MeaningLemmas.{command_has, command_lacks}
use Rattle.ans_options.specs.CommandLine.{commands}
use Rattle.ans_options.proofs.command_line.command_named.Goals as goal

pub returns-clause-some : goal.returns-clause-some
returns-clause-some c = rw (c.command_among.ensures) (command_has c.args.name.now commands)

pub returns-clause-none : goal.returns-clause-none
returns-clause-none c = rw (c.command_among.ensures) (command_lacks c.args.name.now)
