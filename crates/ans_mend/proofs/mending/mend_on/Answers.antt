use Rattle.std.proofs.Common.{◌≡◌, ◌<◌, ◌≤◌, ℕ, Err, List, inl, inr, refl, arith, length, ◌∙◌, rules, subst, ap}
use Rattle.ans_model.specs.Bytes.{longest_file}
use Rattle.ans_mend.specs.Mending.{IsReason}
use Rattle.ans_mend.specs.MendingRoom.{LacksScreenFor, most_put}
use Rattle.std.proofs.lemmas.Result.{err_from_is_err_and}
use Rattle.ans_mend.proofs.DraftRoomLemmas.{grows_so, rest_fits}
use Rattle.ans_mend.proofs.MendedLemmas.{asked_where_given, lacks_screen, mended, not_mended, reason_so, refused}
use Rattle.ans_mend.proofs.MendedLemmas.{same_error, too_long, weaker}
use Rattle.ans_mend.proofs.mending.mend_on.Goals as goal

pub settle-requires-clause-room : goal.settle-requires-clause-room
settle-requires-clause-room g c =
    let most : c.room_for.result ≡ most_put c.args.mends.now c.args.draft.now.file =
    c.room_for.ensures.value ∙ ap (most_put c.args.mends.now) c.file.ensures in
    let asked_is = asked_where_given c.args.mends.now c.cut_tail-tail.new.self.file _ _ _
    c.set_record-record.ensures.given c.is_some.ensures c.asked_where-asked.ensures in
    rest_fits c.args.mends.now c.asked_where-asked.result c.args.draft.now.file c.cut_tail-tail.new.self.file
    c.set_record-record.new.draft.file c.cut_tail-tail.ensures.cut c.cut_tail-tail.ensures.no_longer asked_is
    c.set_record-record.ensures.file c.args.draft.now.room c.set_record-record.new.draft.room
    (c.set_record-record.ensures.memory ∙ c.cut_tail-tail.ensures.memory) (omega (arith, most))

pub returns-then-file-gt-MAX_FILE-clause-reason : goal.returns-then-file-gt-MAX_FILE-clause-reason
returns-then-file-gt-MAX_FILE-clause-reason g c =
    let long : longest_file < length c.set_record-record.new.draft.file =
    rw c.file-2.ensures at c.if-file-gt-MAX_FILE.true in
    let cut : List ℕ = c.cut_tail-tail.new.self.file in (
      cut,
      c.cut_tail-tail.ensures.cut,
      inl (
        refl,
        inl (subst (λ (v : List ℕ). longest_file < length v)
            c.set_record-record.ensures.file long),
      ),
    )

pub returns-in_err-settled-clause-reason : goal.returns-in_err-settled-clause-reason
returns-in_err-settled-clause-reason g c =
    let asked_is = asked_where_given c.args.mends.now c.cut_tail-tail.new.self.file _ _ _
    c.set_record-record.ensures.given c.is_some.ensures c.asked_where-asked.ensures in
    let (e, at, same) = err_from_is_err_and c.from_residual.result c.from_residual.ensures.1 in
    not_mended c.from_residual.result e c.in_err-settled.field-0.0 (IsReason c.args.mends.now c.args.draft.now.file)
    at same
    (reason_so c.args.mends.now c.args.draft.now.file c.cut_tail-tail.new.self.file c.cut_tail-tail.ensures.cut
    c.asked_where-asked.result asked_is c.set_record-record.new.draft.file
    c.set_record-record.ensures.file
    c.in_err-settled.field-0.0 c.in_err-settled.ensures.reason)

pub returns-in_err-judgement-clause-reason : goal.returns-in_err-judgement-clause-reason
returns-in_err-judgement-clause-reason g c =
    let asked_is = asked_where_given c.args.mends.now c.cut_tail-tail.new.self.file _ _ _
    c.set_record-record.ensures.given c.is_some.ensures c.asked_where-asked.ensures in
    let e = c.in_err-judgement.field-0.0 in
    let at : c.from_residual-in_err-judgement.result ≡ Err e = search rules in
    rw at (weaker e
    (refused c.args.mends.now c.args.draft.now.file c.cut_tail-tail.new.self.file c.cut_tail-tail.ensures.cut
    c.asked_where-asked.result asked_is c.set_record-record.new.draft.file
    c.set_record-record.ensures.file
    c.settle.new.draft.file c.in_ok-settled.settled.edits c.in_ok-settled.settled.end_mark
    c.in_ok-settled.ensures.settled)
    (rw c.file-3.ensures at c.in_err-judgement.ensures.fault))

pub returns-in_err-judgement-clause-room : goal.returns-in_err-judgement-clause-room
returns-in_err-judgement-clause-room g c told =
    let asked_is = asked_where_given c.args.mends.now c.cut_tail-tail.new.self.file _ _ _
    c.set_record-record.ensures.given c.is_some.ensures c.asked_where-asked.ensures in
    let e = c.in_err-judgement.field-0.0 in
    let at : c.from_residual-in_err-judgement.result ≡ Err e = search rules in
    let none : LacksScreenFor (g.S.Screens.may_lack c.args.screens.now) c.settle.new.draft.file =
    rw c.file-3.ensures at (c.in_err-judgement.ensures.room (same_error _ at told)) in
    inr (lacks_screen c.args.mends.now c.args.draft.now.file c.cut_tail-tail.new.self.file c.cut_tail-tail.ensures.cut
    c.asked_where-asked.result asked_is c.set_record-record.new.draft.file
    c.set_record-record.ensures.file
    c.settle.new.draft.file c.in_ok-settled.settled.edits c.in_ok-settled.settled.end_mark
    c.in_ok-settled.ensures.settled (g.S.Screens.may_lack c.args.screens.now) none)

pub returns-in_err-file_size-clause-reason : goal.returns-in_err-file_size-clause-reason
returns-in_err-file_size-clause-reason g c =
    let asked_is = asked_where_given c.args.mends.now c.cut_tail-tail.new.self.file _ _ _
    c.set_record-record.ensures.given c.is_some.ensures c.asked_where-asked.ensures in
    let (e, at, same) = err_from_is_err_and c.from_residual-in_err-file_size.result
    c.from_residual-in_err-file_size.ensures.1 in
    not_mended c.from_residual-in_err-file_size.result e c.in_err-file_size.field-0.0
    (IsReason c.args.mends.now c.args.draft.now.file) at same
    (too_long c.args.mends.now c.args.draft.now.file c.cut_tail-tail.new.self.file c.cut_tail-tail.ensures.cut
    c.asked_where-asked.result asked_is c.set_record-record.new.draft.file
    c.set_record-record.ensures.file
    c.settle.new.draft.file c.in_ok-settled.settled.edits c.in_ok-settled.settled.end_mark
    c.in_ok-settled.ensures.settled c.in_ok-judgement.judgement
    (rw c.file-3.ensures at c.in_ok-judgement.ensures.passes)
    c.in_err-file_size.field-0.0 c.in_err-file_size.ensures.long)

pub returns-clause-mended : goal.returns-clause-mended
returns-clause-mended g c =
    let asked_is = asked_where_given c.args.mends.now c.cut_tail-tail.new.self.file _ _ _
    c.set_record-record.ensures.given c.is_some.ensures c.asked_where-asked.ensures in
    let fits : length c.set_record-record.new.draft.file ≤ longest_file =
    rw c.file-2.ensures at c.if-file-gt-MAX_FILE.false in
    mended c.args.mends.now c.args.draft.now.file c.cut_tail-tail.new.self.file c.cut_tail-tail.ensures.cut
    c.asked_where-asked.result asked_is c.set_record-record.new.draft.file
    c.set_record-record.ensures.file
    c.settle.new.draft.file c.in_ok-settled.settled.edits c.in_ok-settled.settled.end_mark
    c.in_ok-settled.ensures.settled c.in_ok-judgement.judgement
    (rw c.file-3.ensures at c.in_ok-judgement.ensures.passes)
    c.in_ok-settled.settled.was c.in_ok-file_size.file_size c.set_file_size.new.draft.file
    c.in_ok-settled.ensures.was c.in_ok-file_size.ensures.sized fits c.in_ok-settled.ensures.length
    c.set_record-record.result.given c.set_record-record.ensures.given c.set_record-record.result.width
    c.set_record-record.ensures.width c.set_record-record.result.repairs.comments
    c.set_record-record.ensures.comments c.set_record-record.result.repairs.older c.set_record-record.ensures.older
    c.cut_tail-tail.result
    c.cut_tail-tail.ensures.times

pub returns-clause-longer : goal.returns-clause-longer
returns-clause-longer g c =
    let asked_is = asked_where_given c.args.mends.now c.cut_tail-tail.new.self.file _ _ _
    c.set_record-record.ensures.given c.is_some.ensures c.asked_where-asked.ensures in
    let same = c.in_ok-file_size.ensures.same_length in
    let longer = c.in_ok-settled.ensures.longer in
    grows_so c.args.mends.now c.asked_where-asked.result c.args.draft.now.file c.cut_tail-tail.new.self.file
    c.set_record-record.new.draft.file c.cut_tail-tail.ensures.cut c.cut_tail-tail.ensures.no_longer asked_is
    c.set_record-record.ensures.file c.set_file_size.new.draft.file (omega (arith, same, longer))
