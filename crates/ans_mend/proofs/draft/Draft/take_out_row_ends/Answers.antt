use Rattle.std.proofs.Common.{ap, sym}
use Rattle.ans_mend.specs.Drafts.{DraftView}
use Rattle.ans_mend.proofs.FullRowsOut.{all_out, none_out}
use Rattle.ans_mend.proofs.draft.Draft.take_out_row_ends.Goals as goal

pub returns-then-not-may_go-clause-file : goal.returns-then-not-may_go-clause-file
returns-then-not-may_go-clause-file c =
    none_out c.args.mixed c.args.size c.args.self.now.file c.in_ok-content.content.now
    (rw c.file.ensures at c.in_ok-content.ensures.some.0) (rw c.file.ensures at c.in_ok-content.ensures.some.1)
    (c.may_go.ensures.other c.if-not-may_go.true)

pub returns-clause-file : goal.returns-clause-file
returns-clause-file c =
    all_out c.args.mixed c.args.size c.self.inside.memory.now c.take_out_ends-left.new.memory _ c.args.self.now.file
    c.in_ok-content.content.now c.self.inside.used c.take_out_ends-left.result.count c.take_out_ends-left.result.times
    c.new.result (rw c.file.ensures at c.in_ok-content.ensures.some.0)
    (rw c.file.ensures at c.in_ok-content.ensures.some.1) c.self.invariant
    (ap (λ (v : DraftView). v.file) (sym c.self.view_is))
    (c.may_go.ensures.may c.if-not-may_go.false) c.new.ensures.ends
    c.take_out_ends-left.ensures.left c.take_out_ends-left.ensures.times c.take_out_ends-left.ensures.behind
    c.keep-self-inside.ensures.kept
