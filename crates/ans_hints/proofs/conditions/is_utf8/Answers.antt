use Rattle.std.proofs.Common.{◌∙◌}
use Rattle.ans_hints.proofs.TextTests.{told_by_text}
use Rattle.ans_hints.proofs.conditions.is_utf8.Goals as goal

pub returns : goal.returns
returns c = c.is_ok.ensures.value ∙ told_by_text c.args.bytes.now _ _ c.from_utf8.result c.from_utf8.ensures.cases
