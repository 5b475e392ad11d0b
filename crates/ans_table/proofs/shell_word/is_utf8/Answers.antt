use Rattle.std.proofs.Common.{◌∙◌}
use Rattle.ans_table.proofs.ShellLemmas.{told_by_text}
use Rattle.ans_table.proofs.shell_word.is_utf8.Goals as goal

pub returns : goal.returns
returns c = c.is_ok.ensures.value ∙ told_by_text c.args.name.now _ _ c.from_utf8.result c.from_utf8.ensures.cases
