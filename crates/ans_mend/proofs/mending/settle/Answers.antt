use Rattle.std.proofs.Common.{◌≡◌, inl, inr, ℕ, ◌<◌, Err, List, length, ◌∙◌, rules, sym, subst, ap}
use Rattle.std.proofs.lemmas.Result.{err_from_is_err_and}
use Rattle.ans_model.specs.Bytes.{longest_file}
use Rattle.ans_model.specs.Screen.State.{Size}
use Rattle.ans_mend.specs.Mending.{HasRecordFault, IsEdited, IsEditedAsStated, IsRead, IsReasonOfEdited, IsSettled}
use Rattle.ans_mend.specs.Mending.{lacks_lines, opened}
use Rattle.ans_mend.specs.MendingSteps.{IsEditedTooLong, reading_in}
use Rattle.ans_mend.specs.declared.judging.Reading.{Reading}
use Rattle.ans_mend.proofs.DraftRoomLemmas.{added_fits, mark_fits, not_longer}
use Rattle.ans_mend.proofs.MendedLemmas.{lacking_asks, too_long_edited}
use Rattle.ans_mend.proofs.mending.settle.Goals as goal

pub returns-in_err-was-clause-reason : goal.returns-in_err-was-clause-reason
returns-in_err-was-clause-reason c =
    let fault : HasRecordFault (opened c.args.asked.now c.args.draft.now.file) c.in_err-was.field-0.0 =
    rw (c.file.ensures, c.open_lines-lacks.ensures.draft) at c.in_err-was.ensures.fault in
    let at : c.from_residual.result ≡ Err c.in_err-was.field-0.0 = search rules in
    rw at (inr (inl fault))

pub edit-requires : goal.edit-requires
edit-requires c =
    added_fits c.args.asked.now c.args.draft.now.file c.args.draft.now.room c.open_lines-lacks.new.draft
    c.open_lines-lacks.ensures.draft c.requires.room

pub returns-in_err-edits-clause-reason : goal.returns-in_err-edits-clause-reason
returns-in_err-edits-clause-reason c =
    let mends = c.args.asked.now in
    let cut : List ℕ = c.args.draft.now.file in
    let read : IsRead (opened mends cut) =
    rw (c.file.ensures, c.open_lines-lacks.ensures.draft) at c.in_ok-was.ensures.read in
    let was : c.in_ok-was.was' ≡ reading_in (lacks_lines mends cut) (opened mends cut) =
    rw (c.open_lines-lacks.ensures.lacks, c.file.ensures, c.open_lines-lacks.ensures.draft)
    at c.in_ok-was.ensures.reading in
    let at : c.from_residual-in_err-edits.result ≡ Err c.in_err-edits.field-0.0 = search rules in
    rw at (
    too_long_edited mends cut c.in_err-edits.field-0.0 read
    (subst (λ (z : Size). IsEditedTooLong mends z (opened mends cut) c.in_err-edits.field-0.0)
    (ap (λ (r : Reading). r.size) was) (rw c.open_lines-lacks.ensures.draft at c.in_err-edits.ensures.reason))
    )

pub lines_for-requires-clause-asked : goal.lines_for-requires-clause-asked
lines_for-requires-clause-asked c is =
    lacking_asks c.args.asked.now c.args.draft.now.file (sym c.open_lines-lacks.ensures.lacks ∙ is)

pub returns-in_err-lines-clause-reason : goal.returns-in_err-lines-clause-reason
returns-in_err-lines-clause-reason c =
    let mends = c.args.asked.now in
    let cut : List ℕ = c.args.draft.now.file in
    let read : IsRead (opened mends cut) =
    rw (c.file.ensures, c.open_lines-lacks.ensures.draft) at c.in_ok-was.ensures.read in
    let was : c.in_ok-was.was' ≡ reading_in (lacks_lines mends cut) (opened mends cut) =
    rw (c.open_lines-lacks.ensures.lacks, c.file.ensures, c.open_lines-lacks.ensures.draft)
    at c.in_ok-was.ensures.reading in
    let is_edited : IsEditedAsStated mends (opened mends cut) c.edit.new.draft.file c.in_ok-edits.edits =
    subst (λ (z : Size). IsEdited mends z (opened mends cut) c.edit.new.draft.file c.in_ok-edits.edits)
    (ap (λ (r : Reading). r.size) was) (rw c.open_lines-lacks.ensures.draft at c.in_ok-edits.ensures.edits) in
    let reason : IsReasonOfEdited mends (lacks_lines mends cut) c.edit.new.draft.file c.in_err-lines.field-0.0 =
    rw (c.open_lines-lacks.ensures.lacks, c.file-2.ensures) at c.in_err-lines.ensures.reason in
    let (e, at, same) = err_from_is_err_and c.from_residual-in_err-lines.result
    c.from_residual-in_err-lines.ensures.1 in
    rw (at, same)
    (inr (inr (inl (read, c.edit.new.draft.file, c.in_ok-edits.edits, is_edited, reason))))

pub take_lines-requires : goal.take_lines-requires
take_lines-requires c = rw c.file-2.ensures at c.in_ok-lines.ensures.record

pub put_end_mark-end_mark-requires : goal.put_end_mark-end_mark-requires
put_end_mark-end_mark-requires c =
    mark_fits c.args.asked.now c.args.draft.now.file c.args.draft.now.room c.open_lines-lacks.new.draft
    c.open_lines-lacks.ensures.draft c.requires.room c.edit.new.draft c.take_lines.new.draft c.in_ok-lines.lines
    c.edit.ensures.memory c.in_ok-edits.ensures.longer c.take_lines.ensures

pub returns-clause-settled : goal.returns-clause-settled
returns-clause-settled c =
    let mends = c.args.asked.now in
    let cut : List ℕ = c.args.draft.now.file in
    let was : c.in_ok-was.was' ≡ reading_in (lacks_lines mends cut) (opened mends cut) =
    rw (c.open_lines-lacks.ensures.lacks, c.file.ensures, c.open_lines-lacks.ensures.draft)
    at c.in_ok-was.ensures.reading in
    record {
      opened_read = rw (c.file.ensures, c.open_lines-lacks.ensures.draft) at c.in_ok-was.ensures.read;
      edited = c.edit.new.draft.file;
      is_edited = subst (λ (z : Size). IsEdited mends z (opened mends cut) c.edit.new.draft.file c.in_ok-edits.edits)
          (ap (λ (r : Reading). r.size) was)
          (rw c.open_lines-lacks.ensures.draft at c.in_ok-edits.ensures.edits);
      edited_sound = (rw c.file-2.ensures at c.in_ok-lines.ensures.read, c.in_ok-edits.ensures.length);
      lines = c.in_ok-lines.lines;
      are_lines = rw (c.open_lines-lacks.ensures.lacks, c.file-2.ensures) at c.in_ok-lines.ensures.lines;
      settled_is = rw c.take_lines.ensures at c.put_end_mark-end_mark.ensures.file;
      mark_is = rw c.take_lines.ensures at c.put_end_mark-end_mark.ensures.offset;
    }

pub returns-then-file-gt-MAX_FILE-clause-reason : goal.returns-then-file-gt-MAX_FILE-clause-reason
returns-then-file-gt-MAX_FILE-clause-reason c =
    let mends = c.args.asked.now in
    let cut : List ℕ = c.args.draft.now.file in
    let was : c.in_ok-was.was' ≡ reading_in (lacks_lines mends cut) (opened mends cut) =
    rw (c.open_lines-lacks.ensures.lacks, c.file.ensures, c.open_lines-lacks.ensures.draft)
    at c.in_ok-was.ensures.reading in
    let long : longest_file < length c.put_end_mark-end_mark.new.self.file =
    rw c.file-3.ensures at c.if-file-gt-MAX_FILE.true in
    let settled : IsSettled mends cut c.in_ok-edits.edits c.put_end_mark-end_mark.result
    c.put_end_mark-end_mark.new.self.file = record {
      opened_read = rw (c.file.ensures, c.open_lines-lacks.ensures.draft) at c.in_ok-was.ensures.read;
      edited = c.edit.new.draft.file;
      is_edited = subst (λ (z : Size). IsEdited mends z (opened mends cut) c.edit.new.draft.file c.in_ok-edits.edits)
          (ap (λ (r : Reading). r.size) was)
          (rw c.open_lines-lacks.ensures.draft at c.in_ok-edits.ensures.edits);
      edited_sound = (rw c.file-2.ensures at c.in_ok-lines.ensures.read, c.in_ok-edits.ensures.length);
      lines = c.in_ok-lines.lines;
      are_lines = rw (c.open_lines-lacks.ensures.lacks, c.file-2.ensures) at c.in_ok-lines.ensures.lines;
      settled_is = rw c.take_lines.ensures at c.put_end_mark-end_mark.ensures.file;
      mark_is = rw c.take_lines.ensures at c.put_end_mark-end_mark.ensures.offset;
    } in
    inr (inr (inr (
      c.put_end_mark-end_mark.new.self.file,
      c.in_ok-edits.edits,
      c.put_end_mark-end_mark.result,
      settled,
      inl long,
    )))

pub returns-clause-longer : goal.returns-clause-longer
returns-clause-longer c =
    not_longer c.args.asked.now c.args.draft.now.file c.args.draft.now.room c.open_lines-lacks.new.draft
    c.open_lines-lacks.ensures.draft c.requires.room c.edit.new.draft c.take_lines.new.draft c.in_ok-lines.lines
    c.edit.ensures.memory c.in_ok-edits.ensures.longer c.take_lines.ensures c.put_end_mark-end_mark.new.self.file
    (rw c.file-2.ensures at c.in_ok-lines.ensures.record) c.put_end_mark-end_mark.ensures.file
