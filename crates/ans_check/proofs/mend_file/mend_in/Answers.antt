use Rattle.std.proofs.Common.{◌≡◌, ◌∙◌, ℕ, List, [], ◌++◌, Ok, Err, ap, refl, subst}
use Rattle.ans_mend.specs.Mending.{IsMended, IsReason, front_bytes}
use Rattle.ans_write.proofs.PutsLemmas.{Puts-nothing}
use Rattle.ans_check.proofs.ReportedLemmas.{is_put}
use Rattle.ans_check.proofs.mend_file.mend_in.Goals as goal

pub returns-in-Ok : goal.returns-in-Ok
returns-in-Ok g c =
    let file : c.new-draft.result.file ≡ c.args.file.now =
    ap (λ d. d.file) c.new-draft.ensures ∙ c.requires.front in
    let mended =
    subst (λ (f : List ℕ). IsMended c.args.mends.now f c.in-Ok.mended c.mend_on.new.draft.file) file
    c.in-Ok.ensures.mended in
    is_put (Ok c.in-Ok.mended) (front_bytes c.in-Ok.mended.front ++ c.file.result.now) (
      (c.mend_on.new.draft.file, mended, tt, ap (λ (v : List ℕ). front_bytes c.in-Ok.mended.front ++ v) c.file.ensures),
      tt,
    ) c.put_file.ensures

pub returns-in_ok-unhelped-in-NotMended : goal.returns-in_ok-unhelped-in-NotMended
returns-in_ok-unhelped-in-NotMended g c =
    let file : c.new-draft.result.file ≡ c.args.file.now =
    ap (λ d. d.file) c.new-draft.ensures ∙ c.requires.front in
    let reason =
    subst (λ (f : List ℕ). IsReason c.args.mends.now f c.in-NotMended.reason) file
    (rw c.in-NotMended.is at c.in-Err.ensures.reason) in
    let unhelped = c.in_ok-unhelped-in-NotMended.unhelped in
    let told : IsReason c.args.mends.now c.args.file.now unhelped.reason =
    rw c.in_ok-unhelped-in-NotMended.ensures.reason reason in
    is_put (Err unhelped) [] (([], tt, told, refl), c.in_ok-unhelped-in-NotMended.ensures.unhelped)
    (Puts-nothing c.args.out.now)
