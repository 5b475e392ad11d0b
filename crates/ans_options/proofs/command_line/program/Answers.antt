use Rattle.std.proofs.Common.{ap, ◌∙◌, ◌≡◌, true}
use Rattle.std.proofs.lemmas.Result.{IfOk-weaker}
use Rattle.clap.specs.Words.{App, app_of}
use Rattle.clap.specs.Simple.{app_of_fields, on_top}
use Rattle.ans_options.specs.CommandLine.{anscheck_top, commands, with_subcommands}
use Rattle.ans_options.proofs.command_line.program.Goals as goal

abbrev versioned : App → App
versioned = on_top (λ s. record s { has_version = true })

abbrev required : App → App
required = on_top (λ s. record s { subcommand_required = true })

abbrev unhelped : App → App
unhelped = on_top (λ s. record s { disable_help_subcommand = true })

pub returns : goal.returns
returns c =
    let named_is = ap app_of_fields c.version.ensures ∙ ap versioned c.new.ensures.app in
    let top_is : app_of c.disable_help_subcommand-top.result ≡ anscheck_top =
    ap app_of_fields c.disable_help_subcommand-top.ensures
    ∙ ap unhelped (ap app_of_fields c.subcommand_required.ensures
    ∙ ap required (ap app_of_fields c.override_usage.ensures ∙ ap app_of_fields c.after_help.ensures
    ∙ ap app_of_fields c.about.ensures ∙ named_is)) in
    IfOk-weaker c.with_subcommands.result _ _
    (λ r is. is ∙ ap (λ (a : App). with_subcommands a commands) top_is) c.with_subcommands.ensures
