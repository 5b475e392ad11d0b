use Rattle.std.proofs.Common.{ℕ, [], ◌∷◌, ◌+◌, ap, ◌∙◌, arith}
use Rattle.ans_sauce.proofs.Overwriting.{recorded_length}
use Rattle.ans_sauce.proofs.RecordLemmas.{recorded_long}
use Rattle.ans_mend.specs.Drafts.{memory_of}
use Rattle.ans_mend.proofs.draft.Draft.recount.Goals as goal

pub returns-clause-memory : goal.returns-clause-memory
returns-clause-memory c =
    ap memory_of c.state_comments.ensures
    ∙ ap (λ (n : ℕ). n + c.args.self.now.room)
    (recorded_length 104 (c.in_ok-counted.counted.is ∷ []) c.args.self.now.file
    (recorded_long c.args.self.now.file (rw c.file.ensures at c.in_ok-counted.ensures.some.0)) (omega arith))
