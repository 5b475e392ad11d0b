use Rattle.std.proofs.Common.{sym, ◌∙◌}
use Rattle.ans_mend.proofs.judging.wants_names.Goals as goal

pub returns-then-mends : goal.returns-then-mends
returns-then-mends c =
    let (tokens, reads) = c.requires.reads in (
      λ on. (c.if-mends.true, tokens, reads, sym (c.begins_unnamed.ensures tokens reads.0 reads.1) ∙ on),
      λ wants. c.begins_unnamed.ensures wants.1 wants.2.0 wants.2.1 ∙ wants.3,
    )
