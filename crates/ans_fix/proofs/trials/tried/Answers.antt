use Rattle.std.proofs.Common.{◌≡◌, ◌∙◌, ℕ, List, [], ◌++◌, length, take, ap, refl, subst}
use Rattle.ans_mend.specs.Mending.{IsMended, IsReason, front_bytes}
use Rattle.ans_fix.proofs.trials.tried.Goals as goal

pub returns-in-Ok : goal.returns-in-Ok
returns-in-Ok c =
    let file : c.new-draft.result.file ≡ c.args.file.now =
    ap (λ d. d.file) c.new-draft.ensures
    ∙ ap (λ (v : List ℕ). take (length c.args.file.now) v) c.as_mut_slice.ensures.value ∙ c.in_ok-memory.ensures.file in
    let mended =
    subst (λ (f : List ℕ). IsMended c.args.mends.now f c.in-Ok.mended c.mend_on.new.draft.file) file
    c.in-Ok.ensures.mended in
    (front_bytes c.in-Ok.mended.front ++ c.mend_on.new.draft.file, (c.mend_on.new.draft.file, mended, tt, refl))

pub returns-in-NotMended : goal.returns-in-NotMended
returns-in-NotMended c =
    let file : c.new-draft.result.file ≡ c.args.file.now =
    ap (λ d. d.file) c.new-draft.ensures
    ∙ ap (λ (v : List ℕ). take (length c.args.file.now) v) c.as_mut_slice.ensures.value ∙ c.in_ok-memory.ensures.file in
    let reason =
    subst (λ (f : List ℕ). IsReason c.args.mends.now f c.in-NotMended.reason) file
    (rw c.in-NotMended.is at c.in-Err.ensures.reason) in
    ([], ([], tt, reason, refl))
