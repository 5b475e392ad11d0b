use Rattle.std.proofs.Common.{◌∙◌, ap, not}
use Rattle.ans_why.proofs.TextCounts.{no_wide_there}
use Rattle.ans_why.proofs.text_damage.wide_characters.Goals as goal

pub returns-then-is_none : goal.returns-then-is_none
returns-then-is_none c =
    no_wide_there c.args.bytes.now c.memchr.result c.memchr.ensures (c.is_none.ensures ∙ ap not c.if-is_none.true)
