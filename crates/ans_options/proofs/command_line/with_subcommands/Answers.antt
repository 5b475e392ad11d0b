use Rattle.std.proofs.Common.{◌≡◌, ◌∙◌, ◌+◌, ap, sym, drop, get_or, true, refl, arith}
use Rattle.std.proofs.lemmas.List.{at_drop_more}
use Rattle.clap.specs.Words.{App, app_of, with_subcommand}
use Rattle.clap.proofs.SimpleLemmas.{plain_fields}
use Rattle.ans_options.specs.declared.command.Command.{Command}
use Rattle.ans_options.specs.declared.command.Command.TheVariants.{Why, Check, Show, Sauce, Tokens, Needs, Table, Mend}
use Rattle.ans_options.specs.declared.command.Command.TheVariants.{Redraw}
use Rattle.ans_options.specs.CommandLine.{command_app, with_subcommands}
use Rattle.ans_options.proofs.command_line.with_subcommands.Goals as goal

-- no subcommand is more than its name, its rules and its texts
plain_command : (command : Command) → (command_app command).top.is_plain ≡ true
plain_command Why = refl
plain_command Needs = refl
plain_command Check = refl
plain_command (Show form) = refl
plain_command Sauce = refl
plain_command Tokens = refl
plain_command (Table choice) = refl
plain_command (Mend choice) = refl
plain_command Redraw = refl

pub loop-command-preserved : goal.loop-command-preserved
loop-command-preserved c =
    let old : App = app_of c.loop-command.program in
    let commands = c.args.commands.now in
    let i = c.loop-command.command-index in
    let command : Command = get_or commands i Why in
    let sub : app_of c.in_ok-subcommand.field-0 ≡ command_app command = c.in_ok-subcommand.ensures in
    let step : app_of c.in_ok-program.program ≡ with_subcommand old (command_app command).top =
    c.in_ok-program.ensures.shape (plain_fields c.in_ok-subcommand.field-0
    (ap (λ (a : App). a.top.is_plain) sub ∙ plain_command command)).globals
    ∙ ap (λ (a : App). with_subcommand old a.top) sub in
    ap (λ (a : App). with_subcommands a (drop (i + 1) commands)) step
    ∙ sym (at_drop_more (with_subcommands old) commands i Why (omega (arith, c.loop-command-test.true)))
    ∙ c.loop-command.invariant
