use Rattle.std.proofs.Common.{Some, ap}
use Rattle.clap.specs.Words.{Rule}
use Rattle.clap.specs.declared.builder.ArgAction.TheVariants.{SetTrue}
use Rattle.ans_options.proofs.command_line.flag.Goals as goal

pub returns-clause-rule : goal.returns-clause-rule
returns-clause-rule c =
    rw (c.hide.ensures, c.help.ensures, c.action.ensures, c.long.ensures)
    (ap (λ (r : Rule). record r { long = Some c.args.name.now; action = Some SetTrue }) c.new.ensures.rule)
