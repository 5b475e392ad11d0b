use Rattle.std.proofs.Common.{ℕ, List, [], ◌∷◌, ◌+◌, ◌-◌, ap, ◌∙◌, arith, length}
use Rattle.std.specs.Prelude.{◌%◌}
use Rattle.ans_model.specs.File.Record.{flags}
use Rattle.ans_sauce.specs.Found.{record_in}
use Rattle.ans_sauce.proofs.Overwriting.{recorded_length}
use Rattle.ans_sauce.proofs.RecordLemmas.{recorded_long}
use Rattle.ans_mend.specs.Drafts.{DraftView, memory_of}
use Rattle.ans_mend.proofs.editing.set_ice.Goals as goal

pub returns-in-Some-clause-same_length : goal.returns-in-Some-clause-same_length
returns-in-Some-clause-same_length c =
    let file : List ℕ = c.args.draft.now.file in
    let r : List ℕ = record_in file in
    ap (λ (d : DraftView). length d.file) c.state_non_blink.ensures
    ∙ recorded_length 105 ((flags r - flags r % 2 + 1) ∷ []) file
    (recorded_long file (rw c.file.ensures at c.in-Some.ensures.some.0)) (omega arith)

pub returns-in-Some-clause-memory : goal.returns-in-Some-clause-memory
returns-in-Some-clause-memory c =
    let file : List ℕ = c.args.draft.now.file in
    let r : List ℕ = record_in file in
    ap memory_of c.state_non_blink.ensures
    ∙ ap (λ (n : ℕ). n + c.args.draft.now.room) (recorded_length 105 ((flags r - flags r % 2 + 1) ∷ []) file
    (recorded_long file (rw c.file.ensures at c.in-Some.ensures.some.0)) (omega arith))
