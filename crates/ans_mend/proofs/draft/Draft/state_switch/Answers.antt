use Rattle.std.proofs.Common.{ℕ, List, [], ◌∷◌, ◌+◌, ◌-◌, ap, ◌∙◌, arith}
use Rattle.std.specs.Prelude.{◌%◌, if◌then◌else◌}
use Rattle.ans_model.specs.File.Record.{flags}
use Rattle.ans_sauce.specs.Found.{record_in}
use Rattle.ans_sauce.proofs.Overwriting.{recorded_length}
use Rattle.ans_mend.specs.Drafts.{memory_of}
use Rattle.ans_mend.proofs.draft.Draft.state_switch.Goals as goal

pub returns-in-Some-clause-memory : goal.returns-in-Some-clause-memory
returns-in-Some-clause-memory c =
    let r : List ℕ = record_in c.args.self.now.file in
    ap memory_of c.state_non_blink.ensures
    ∙ ap (λ (n : ℕ). n + c.args.self.now.room)
    (recorded_length 105 ((flags r - flags r % 2 + (if c.in-Some.on then 1 else 0)) ∷ []) c.args.self.now.file
    c.requires
    (omega arith))
