use Rattle.std.proofs.Common.{ap, ◌∙◌, List, [], ◌∷◌, codes}
use Rattle.std.proofs.lemmas.Result.{IfOk-weaker}
use Rattle.clap.specs.Words.{App, Text}
use Rattle.ans_options.specs.CommandLine.{part_flags, with_flags}
use Rattle.ans_options.proofs.command_line.show_command.Goals as goal

abbrev show_flags : List Text
show_flags = codes "html" ∷ codes "vga" ∷ []

abbrev start_flags : List Text
start_flags = codes "cleared" ∷ codes "any" ∷ []

pub returns : goal.returns
returns c =
    IfOk-weaker c.with_flags-3.result _ _
    (λ v is. is ∙ ap (λ (a : App). with_flags a part_flags)
    (c.in_ok-command-3.ensures ∙ ap (λ (a : App). with_flags a start_flags)
    (c.in_ok-command-2.ensures ∙ ap (λ (a : App). with_flags a show_flags) c.in_ok-command.ensures)))
    c.with_flags-3.ensures
