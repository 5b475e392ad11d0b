use Rattle.std.proofs.Common.{◌≡◌, ◌∙◌, ap, ap₂, false}
use Rattle.std.proofs.lemmas.Result.{IfOk-weaker}
use Rattle.clap.specs.Words.{Rule, app_of, new_app, rule_of, with_rule}
use Rattle.clap.specs.Simple.{app_of_fields}
use Rattle.ans_options.specs.CommandLine.{file_rule}
use Rattle.ans_options.proofs.command_line.file_command.Goals as goal

pub returns : goal.returns
returns c =
    let file : rule_of c.help-file.result ≡ file_rule =
    rw (c.help-file.ensures, c.value_name.ensures)
    (ap (λ (r : Rule). record r { value_names = 1 }) c.new.ensures.rule) in
    let local : c.help-file.result.global ≡ false =
    rw (c.help-file.ensures, c.value_name.ensures) c.new.ensures.optional.1 in
    let command : app_of c.after_help.result ≡ new_app c.args.name.now =
    ap app_of_fields c.after_help.ensures ∙ (ap app_of_fields c.about.ensures ∙ c.new-2.ensures.app) in
    IfOk-weaker c.arg.result _ _ (λ v adds. adds.shape local ∙ ap₂ with_rule command file) c.arg.ensures
