use Rattle.std.proofs.Common.{length, sym}
use Rattle.ans_hints.specs.Walks.{seen_at}
use Rattle.ans_pens.proofs.CountedRuns.{more_along}
use Rattle.ans_hints.proofs.seen.count_seen.Goals as goal

pub returns-in-Some-clause-value : goal.returns-in-Some-clause-value
returns-in-Some-clause-value c =
    rw (c.in-Some.is, c.seen_in.ensures.count)
    (sym (more_along c.in-Some.times (seen_at c.args.run.now) c.args.offset (length c.args.run.now)))
