use Rattle.std.proofs.Common.{ap, sym}
use Rattle.ans_mend.specs.Drafts.{DraftView}
use Rattle.ans_mend.proofs.OlderOut.{dropped}
use Rattle.ans_mend.proofs.draft.Draft.drop_older_record.Goals as goal

pub returns-clause-file : goal.returns-clause-file
returns-clause-file c =
    dropped c.self.inside.memory.now _ c.args.self.now.file c.self.inside.used c.in_ok-times.times c.self.invariant
    (ap (λ (v : DraftView). v.file) (sym c.self.view_is)) (rw c.file.ensures at c.in_ok-times.ensures.place)
    (rw c.file.ensures at c.in_ok-times.ensures.within) c.keep-self-inside.ensures.kept
