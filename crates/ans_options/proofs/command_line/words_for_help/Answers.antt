use Rattle.std.proofs.Common.{ap, sym, ◌∙◌, List, ◌∷◌}
use Rattle.std.proofs.lemmas.Result.{IfOk-weaker}
use Rattle.clap.specs.Words.{Text}
use Rattle.ans_model.specs.Text.Words.{texts_of}
use Rattle.ans_options.proofs.MeaningLemmas.{help_on_none}
use Rattle.ans_options.proofs.command_line.words_for_help.Goals as goal

pub returns-in-len1-up : goal.returns-in-len1-up
returns-in-len1-up c =
    let none = help_on_none c.args.topic.now _ c.command_named.result c.in-len1-up.len_at_least c.if-is_none.ensures
    c.command_named.ensures.none in
    IfOk-weaker c.from_slice-in-len1-up.result _ _
    (λ v is. ap texts_of is ∙ ap (λ (t : List Text). c.args.program.now ∷ t) (sym none)) c.from_slice-in-len1-up.ensures.items
