use Rattle.std.proofs.Common.{ap, sym}
use Rattle.ans_mend.specs.Drafts.{DraftView}
use Rattle.ans_mend.proofs.FewerEnds.{none_fewer, some_fewer}
use Rattle.ans_mend.proofs.draft.Draft.take_out_last_ends.Goals as goal

pub returns-in_err-left-clause-file : goal.returns-in_err-left-clause-file
returns-in_err-left-clause-file c =
    rw c.from_residual-in_err-left.ensures
    (none_fewer c.args.size c.args.self.now.file c.in_ok-content.content.now
    (rw c.file.ensures at c.in_ok-content.ensures.some.0) (rw c.file.ensures at c.in_ok-content.ensures.some.1)
    c.in_err-left.ensures.none)

pub returns-clause-file : goal.returns-clause-file
returns-clause-file c =
    some_fewer c.args.size c.self.inside.memory.now _ c.args.self.now.file c.in_ok-content.content.now
    c.self.inside.used c.in_ok-left.left c.ends_behind-times.result
    (rw c.file.ensures at c.in_ok-content.ensures.some.0) (rw c.file.ensures at c.in_ok-content.ensures.some.1)
    c.self.invariant (ap (λ (v : DraftView). v.file) (sym c.self.view_is)) c.in_ok-left.ensures.some
    c.ends_behind-times.ensures c.keep-self-inside.ensures.kept
