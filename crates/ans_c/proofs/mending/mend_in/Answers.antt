use Rattle.std.proofs.Common.{◌≡◌, ◌∙◌, ◌+◌, ◌≤◌, ◌++◌, ap, ap₂, length, List, ℕ, Err, [], refl, subst, subst₂, sym}
use Rattle.ans_mend.specs.Mending.{IsMended, IsReason}
use Rattle.ans_mend.specs.MendingRoom.{most_put}
use Rattle.ans_c.proofs.MendingRooms.{lacks_draft, lacks_place}
use Rattle.ans_c.proofs.mending.mend_in.Goals as goal

pub returns-in_ok-size-in-Ok-clause-tells : goal.returns-in_ok-size-in-Ok-clause-tells
returns-in_ok-size-in-Ok-clause-tells c =
    let file : c.in_ok-draft.draft.file ≡ c.args.file.now = ap (λ d. d.file) c.in_ok-draft.ensures.draft in
    let mended = subst (λ (xs : List ℕ). IsMended c.args.mends.now xs c.in-Ok.changed c.mend_on.new.draft.file)
    file c.in-Ok.ensures.mended in (
      c.mend_on.new.draft.file,
      mended,
      tt,
      c.in_ok-size-in-Ok.ensures.placed
          ∙ ap₂ (λ (xs ys : List ℕ). xs ++ ys) c.front_bytes.ensures c.file.ensures,
    )

pub returns-in-NotMended-clause-tells : goal.returns-in-NotMended-clause-tells
returns-in-NotMended-clause-tells c =
    let file : c.in_ok-draft.draft.file ≡ c.args.file.now = ap (λ d. d.file) c.in_ok-draft.ensures.draft in
    let reason = subst (λ (xs : List ℕ). IsReason c.args.mends.now xs c.in-NotMended.reason) file
    (rw c.in-NotMended.is at c.in-Err.ensures.reason) in
    ([], tt, reason, refl)

pub returns-in_err-size-in-Ok-clause-room : goal.returns-in_err-size-in-Ok-clause-room
returns-in_err-size-in-Ok-clause-room c told =
    let file : c.in_ok-draft.draft.file ≡ c.args.file.now = ap (λ d. d.file) c.in_ok-draft.ensures.draft in
    let drafted : length c.mend_on.new.draft.file
    ≤ length c.in_ok-draft.draft.file + most_put c.args.mends.now c.in_ok-draft.draft.file =
    c.in-Ok.ensures.longer in
    let longer : length c.file.result.now ≤ length c.args.file.now + most_put c.args.mends.now c.args.file.now =
    subst₂ (λ (xs ys : List ℕ). length ys ≤ length xs + most_put c.args.mends.now xs) file (sym c.file.ensures)
    drafted in
    lacks_place c.args.mends.now c.args.file.now c.front_bytes.result.now c.file.result.now _ _ _ _ _
    c.front_bytes.ensures longer (c.in_err-size-in-Ok.ensures.room refl)

pub returns-in-Memory-clause-room : goal.returns-in-Memory-clause-room
returns-in-Memory-clause-room c told =
    lacks_draft c.args.mends.now c.args.file.now _ _ _ _ c.in_ok-draft.draft c.in_ok-draft.ensures.draft
    (c.in-Err.ensures.room (ap Err c.in-Memory.is))
