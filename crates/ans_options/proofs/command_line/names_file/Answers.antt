use Rattle.std.proofs.Common.{◌≡◌, true, false, true≢false, Option, Some, None, sym, ◌∙◌, refl, ap, Bool}
use Rattle.std.specs.Prelude.{IfNone, is_some, not}
use Rattle.ans_options.specs.CommandLine.{IsNoCommand}
use Rattle.clap.specs.Words.{Text}
use Rattle.ans_options.specs.declared.command.Command.{Command}
use Rattle.ans_options.proofs.command_line.names_file.Goals.{then-is_none, else-is_none}
use Rattle.ans_options.proofs.MeaningLemmas.{no_command_name}
use Rattle.ans_options.proofs.command_line.names_file.Goals as goal

no_command : (found : Option Command) (word : Text) → is_some found ≡ false → IfNone found (IsNoCommand word)
    → IsNoCommand word
no_command None word none other = other
no_command (Some c) word none other = absurd (true≢false none)

unsaid : (b : Bool) → not b ≡ true → b ≡ false
unsaid true said = absurd (true≢false (sym said))
unsaid false said = refl

pub returns-then-ne : goal.returns-then-ne
returns-then-ne c = elim c.if-is_none.branch [
  | then-is_none w ↦
      let other = no_command c.command_named.result c.args.word.now w.if-is_none.ensures
      c.command_named.ensures.none in
      let no_help = unsaid _ (sym w.ne.ensures ∙ (sym w.value-is ∙ c.if-ne.true)) in
      rw (no_command_name c.args.word.now other, no_help)
      (rw (c.as_bytes.ensures.value) at (ap not c.starts_with.ensures.value))
  | else-is_none w ↦ absurd (true≢false (sym c.if-ne.true ∙ (w.value-is ∙ w.if-is_none.false)))
]
