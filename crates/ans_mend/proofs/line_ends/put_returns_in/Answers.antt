use Rattle.std.proofs.Common.{◌∙◌}
use Rattle.ans_mend.proofs.MovedUp.{from_start}
use Rattle.ans_mend.proofs.Returns.{moved_feeds, returned_front}
use Rattle.ans_mend.proofs.line_ends.put_returns_in.Goals as goal

pub close_gap-requires-clause-room : goal.close_gap-requires-clause-room
close_gap-requires-clause-room c =
    rw (c.copy_within.ensures.after ∙ from_start c.args.memory.now c.args.used c.args.gap)
    (moved_feeds c.args.memory.now c.args.used c.args.count c.args.gap c.requires.room c.requires.within c.requires.gap)

pub returns-clause-returned : goal.returns-clause-returned
returns-clause-returned c =
    returned_front c.args.memory.now c.args.used c.args.count c.args.gap c.requires.room c.requires.within
    c.requires.gap
    c.close_gap.new.memory
    (rw (c.copy_within.ensures.after ∙ from_start c.args.memory.now c.args.used c.args.gap)
    at c.close_gap.ensures.written)
    (rw (c.copy_within.ensures.after ∙ from_start c.args.memory.now c.args.used c.args.gap)
    at c.close_gap.ensures.behind)
