use Rattle.std.proofs.Common.{◌∙◌}
use Rattle.ans_why.specs.TextDamage.{is_escape}
use Rattle.ans_why.proofs.TextCounts.{any_found}
use Rattle.ans_why.proofs.text_damage.has_escape.Goals as goal

pub returns : goal.returns
returns c = c.is_some.ensures ∙ any_found is_escape c.args.bytes.now c.memchr.result c.memchr.ensures
