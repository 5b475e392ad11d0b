use Rattle.std.proofs.Common.{◌∙◌, ap, not}
use Rattle.ans_why.proofs.TextCounts.{no_pairs_there}
use Rattle.ans_why.proofs.text_damage.converted.Goals as goal

pub returns-then-is_none : goal.returns-then-is_none
returns-then-is_none c =
    no_pairs_there c.args.bytes.now c.memchr2.result c.memchr2.ensures (c.is_none.ensures ∙ ap not c.if-is_none.true)
