use Rattle.std.proofs.Common.{ℕ, ◌+◌, ap, ◌∙◌, arith}
use Rattle.ans_sauce.specs.Fields.{two_bytes}
use Rattle.ans_sauce.proofs.Overwriting.{recorded_length}
use Rattle.ans_sauce.proofs.RecordLemmas.{recorded_long}
use Rattle.ans_mend.specs.Drafts.{memory_of}
use Rattle.ans_mend.proofs.draft.Draft.state_columns.Goals as goal

pub returns-clause-memory : goal.returns-clause-memory
returns-clause-memory c =
    ap memory_of c.state_width.ensures
    ∙ ap (λ (n : ℕ). n + c.args.self.now.room)
    (recorded_length 96 (two_bytes c.args.width) c.args.self.now.file
    (recorded_long c.args.self.now.file (rw c.file.ensures at c.in_ok-was.ensures.some.0)) (omega arith))
