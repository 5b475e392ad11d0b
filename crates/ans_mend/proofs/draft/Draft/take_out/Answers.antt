use Rattle.std.proofs.Common.{ap, sym}
use Rattle.ans_mend.specs.Drafts.{DraftView}
use Rattle.ans_mend.proofs.SequencesOut.{still_long, taken_out}
use Rattle.ans_mend.proofs.draft.Draft.take_out.Goals as goal

pub state_switch-requires : goal.state_switch-requires
state_switch-requires c =
    let gone = c.take_out_sequences-left.ensures.left in
    still_long c.self.inside.memory.now c.take_out_sequences-left.new.memory c.args.self.now.file c.in-Some.content.now
    c.self.inside.used c.take_out_sequences-left.result.count c.take_out_sequences-left.result.told
    (rw c.file.ensures at c.in-Some.ensures.some.0) (rw c.file.ensures at c.in-Some.ensures.some.1) c.self.invariant
    (ap (λ (v : DraftView). v.file) (sym c.self.view_is)) gone.0 gone.1 gone.2 gone.3
    c.take_out_sequences-left.ensures.behind
    _ c.keep-self-inside.ensures.kept

pub returns-clause-file : goal.returns-clause-file
returns-clause-file c =
    let gone = c.take_out_sequences-left.ensures.left in
    taken_out c.self.inside.memory.now c.take_out_sequences-left.new.memory c.args.self.now.file c.in-Some.content.now
    c.self.inside.used c.take_out_sequences-left.result.count c.take_out_sequences-left.result.told
    (rw c.file.ensures at c.in-Some.ensures.some.0) (rw c.file.ensures at c.in-Some.ensures.some.1) c.self.invariant
    (ap (λ (v : DraftView). v.file) (sym c.self.view_is)) gone.0 gone.1 gone.2 gone.3
    c.take_out_sequences-left.ensures.behind
    _ c.keep-self-inside.ensures.kept _ (ap (λ (v : DraftView). v.file) c.state_switch.ensures.draft)
