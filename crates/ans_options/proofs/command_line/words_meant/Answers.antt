use Rattle.std.proofs.Common.{ap, sym, ◌∙◌, rules, ◌≡◌, []}
use Rattle.std.proofs.lemmas.Result.{IfOk-weaker}
use Rattle.std.specs.Borrow.{Bor}
use Rattle.clap.specs.Words.{Text}
use Rattle.ans_options.specs.CommandLine.{words_meant}
use Rattle.ans_model.specs.Text.Words.{texts_of}
use Rattle.ans_options.proofs.MeaningLemmas.{few_meant, others_meant}
use Rattle.ans_options.proofs.command_line.words_meant.Goals.{in_default-via-then-words-lt2}
use Rattle.ans_options.proofs.command_line.words_meant.Goals.{in_default-via-else-words-lt2+in_default}
use Rattle.ans_options.proofs.command_line.words_meant.Goals as goal

-- what stands past the end of a slice
abbrev none : Bor Text
none = record { ref_ptr = (0, 0); now = [] }

pub returns-in_default : goal.returns-in_default
returns-in_default c =
    let same : words_meant (texts_of c.args.words.now) ≡ texts_of c.args.words.now = elim c.in_default.branch [
      | in_default-via-then-words-lt2 w ↦ few_meant c.args.words.now (search rules)
      | in_default-via-else-words-lt2+in_default w ↦ others_meant c.args.words.now none (search rules) (search rules)
    ] in
    IfOk-weaker c.from_slice.result _ _ (λ v is. ap texts_of is ∙ sym same) c.from_slice.ensures.items
