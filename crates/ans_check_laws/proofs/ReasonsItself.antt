-- Why a file that passes from the cleared start is not mended by itself.
use Rattle.std.proofs.Common.{◌≡◌, inl, inr, ℕ, suc, ◌+◌, ◌≤◌, ◌<◌, Bool, true, false, List, [], ◌∷◌, ◌++◌, length}
use Rattle.std.proofs.Common.{take, drop, refl, sym, ap, ◌∙◌, arith, subst, subst₂, true≢false, Option}
use Rattle.std.specs.Prelude.{if◌then◌else◌, IsTrue}
use Rattle.std.specs.List.{list_all, list_any, position_or_len}
use Rattle.std.proofs.Math.Seq.{drop-append_seam}
use Rattle.ans_model.specs.Bytes.{end_mark, longest_file}
use Rattle.ans_model.specs.File.Layout.{FileParts, content, is_clean_end, is_end_mark}
use Rattle.ans_model.specs.File.Record.{stated_size}
use Rattle.ans_model.specs.File.Refusals.{Accepts}
use Rattle.ans_model.specs.Screen.StartClass.{all_known}
use Rattle.ans_model.specs.Verdict.Good.{IsGood, Picture}
use Rattle.ans_sauce.specs.Found.{body_in, record_in}
use Rattle.ans_sauce.proofs.LaidParts.{laid_body}
use Rattle.ans_model.specs.Screen.Beginning.{mending}
use Rattle.ans_sauce.specs.Contents.{content_in}
use Rattle.ans_mend.specs.EndMark.{lacks_end_mark, with_end_mark}
use Rattle.ans_mend.specs.declared.outcome.Edits.{Edits}
use Rattle.ans_mend.specs.declared.outcome.Unmended.{Unmended}
use Rattle.ans_mend.specs.declared.outcome.Unmended.TheVariants.{Refused, TakesNoRecord, Torn, NoLines, TooLong}
use Rattle.ans_model.specs.declared.mends.TheConstants.Mends as no_mends
use Rattle.ans_verdict.specs.FileVerdict.{Passes}
use Rattle.ans_mend.specs.Mending.{IsEditedAsStated, IsRead, IsReason, IsReasonFor, IsReasonOfContent}
use Rattle.ans_mend.specs.Mending.{IsReasonOfEdited, IsSettled, lacks_lines, opened}
use Rattle.ans_verdict.proofs.VerdictLemmas.{not_good}
use Rattle.ans_check_laws.proofs.MarkedContents.{content_marked, marked_content, marked_laid, marked_parts}
use Rattle.ans_check_laws.proofs.MarkedContents.{marked_file, marked_record, unmarked}
use Rattle.ans_mend.proofs.EndMarks.{byte_more}
use Rattle.ans_mend.specs.Drafts.{with_byte}
use Rattle.ans_model.specs.File.Refusals.{has_record}
use Rattle.ans_sauce.specs.Judged.{IsRecordFault}
use Rattle.ans_check_laws.proofs.MendedItself.{not_edited, not_lined, not_opened}
use Rattle.ans_check_laws.proofs.MendedOrNot.{read_or_refused}
use Rattle.ans_check_laws.proofs.WholeFiles.{nothing_cut}

-- ---- an end mark after the content

one_and : (n : ℕ) → 1 + n ≡ suc n
one_and n = omega arith

-- a body without an end mark is all content
all_content : (body : List ℕ) → list_any is_end_mark body ≡ false → content body ≡ body
all_content [] none = refl
all_content (b ∷ body) none = go (is_end_mark b) refl (all_content body)
  where
    go : (marked : Bool) → is_end_mark b ≡ marked → (list_any is_end_mark body ≡ false → content body ≡ body)
        → content (b ∷ body) ≡ b ∷ body
    go true is more = absurd (true≢false (rw is at none))
    go false is more =
        let behind : list_any is_end_mark body ≡ false = rw is at none in
        let first : take (1 + position_or_len is_end_mark body) (b ∷ body) ≡ b ∷ content body =
        ap (λ (v : ℕ). take v (b ∷ body)) (one_and (position_or_len is_end_mark body)) in
        let same : b ∷ content body ≡ b ∷ body = ap (λ (v : List ℕ). b ∷ v) (more behind) in
        rw is (first ∙ same)

marked_clean : (body : List ℕ) → list_any is_end_mark body ≡ false
    → IsTrue (is_clean_end (body ++ end_mark ∷ []))
marked_clean body none =
    let marked : List ℕ = body ++ end_mark ∷ [] in
    let same : content marked ≡ body = content_marked body none ∙ all_content body none in
    ap (λ (v : List ℕ). list_all is_end_mark (drop (length v) marked)) same
    ∙ ap (list_all is_end_mark) (drop-append_seam body (end_mark ∷ []))

-- a file that is accepted is accepted with one
module _ (file : List ℕ) (apart : FileParts) (accepts : Accepts file apart) where
  marked_read : IsRead (with_end_mark file)
  marked_read = go (lacks_end_mark file) refl
    where
      go : (lacks : Bool) → lacks_end_mark file ≡ lacks
          → IsRead (if lacks then marked_file file apart accepts.laid else file)
      go false is = (apart, accepts)
      go true is =
          let none : list_any is_end_mark apart.body ≡ false =
          ap (list_any is_end_mark) (sym (laid_body file apart accepts.laid))
          ∙ unmarked (has_record file) (list_any is_end_mark (body_in file)) is in (
            marked_parts file apart accepts.laid,
            record {
              laid = marked_laid file apart accepts.laid;
              version_00 = accepts.version_00;
              character = accepts.character;
              ansi = accepts.ansi;
              lines_stated = accepts.lines_stated;
              width_in_limit = accepts.width_in_limit;
              lines_in_limit = accepts.lines_in_limit;
              clean_end = marked_clean apart.body none;
            },
          )

-- ---- by itself
module _ (file : List ℕ) (apart : FileParts) (picture : Picture) (passes : Passes file all_known apart picture) where
  abbrev IsTooLongItself : Unmended → Type 0
  IsTooLongItself reason = (reason ≡ TooLong) × (longest_file < length (with_end_mark file) + length mending)

  its : IsRead file
  its = (apart, passes.accepts)

  longer : length file ≤ length (with_end_mark file)
  longer = go (lacks_end_mark file)
    where
      go : (lacks : Bool)
          → length file ≤ length (if lacks then with_byte (length (body_in file)) end_mark file else file)
      go true = let more = byte_more file (length (body_in file)) end_mark in omega (arith, more)
      go false = omega arith

  stays : opened no_mends.NONE file ≡ file
  stays = not_opened file

  of_edited : (reason : Unmended) → IsReasonOfEdited no_mends.NONE (lacks_lines no_mends.NONE file) file reason
      → IsTooLongItself reason
  of_edited reason (inl (is, long)) = (is, omega (arith, long, longer))
  of_edited reason (inr (inl (fault, is, refused))) = absurd (read_or_refused file fault its refused)
  of_edited reason (inr (inr (wants, asks, number))) = absurd (true≢false (sym asks.1))

  marked_good : IsGood (stated_size (record_in (with_end_mark file))) all_known (content_in (with_end_mark file))
  marked_good =
      subst₂ (λ (v w : List ℕ). IsGood (stated_size v) all_known w)
      (sym (marked_record file apart passes.accepts.laid)) (sym (marked_content file apart passes.accepts.laid))
      (picture, passes.good)

  of_settled : (reason : Unmended) → IsReasonOfContent no_mends.NONE (with_end_mark file) reason
      → IsTooLongItself reason
  of_settled (Refused fault) (inl refused) =
      absurd (read_or_refused (with_end_mark file) fault (marked_read file apart passes.accepts) refused)
  of_settled (Refused fault) (inr deserves) =
      absurd (not_good (stated_size (record_in (with_end_mark file))) all_known (content_in (with_end_mark file)) fault
      deserves marked_good)
  of_settled TooLong (inl long) = (refl, omega (arith, long))
  of_settled TooLong (inr (long, wants, good)) = (refl, long)
  of_settled (TakesNoRecord fault) why = absurd why
  of_settled Torn why = absurd why
  of_settled NoLines why = absurd why

  edited_is : (edited : List ℕ) (edits : Edits)
      → IsEditedAsStated no_mends.NONE (opened no_mends.NONE file) edited edits → edited ≡ file
  edited_is edited edits h =
      not_edited (stated_size (record_in file)) file edited edits
      (subst (λ (v : List ℕ). IsEditedAsStated no_mends.NONE v edited edits) stays h)

  settled_is : (settled : List ℕ) (edits : Edits) (mark : Option ℕ) → IsSettled no_mends.NONE file edits mark settled
      → settled ≡ with_end_mark file
  settled_is settled edits mark h =
      h.settled_is
      ∙ ap with_end_mark (not_lined (lacks_lines no_mends.NONE file) h.edited h.lines h.are_lines
      ∙ edited_is h.edited edits h.is_edited)

  reason_for : (reason : Unmended) → IsReasonFor no_mends.NONE file reason → IsTooLongItself reason
  reason_for reason (inl (is, inl long)) = (is, omega (arith, long, longer))
  reason_for reason (inl (is, inr long)) =
      let same : length (opened no_mends.NONE file) ≡ length file = ap length stays in
      (is, omega (arith, long, same, longer))
  reason_for reason (inr (inl (fault, is, refused))) =
      absurd (read_or_refused file fault its (subst (λ (v : List ℕ). IsRecordFault v fault) stays refused))
  reason_for reason (inr (inr (inl (read, edited, edits, is_edited, why)))) =
      of_edited reason
      (subst (λ (v : List ℕ). IsReasonOfEdited no_mends.NONE (lacks_lines no_mends.NONE file) v reason)
      (edited_is edited edits is_edited) why)
  reason_for reason (inr (inr (inr (settled, edits, mark, is_settled, why)))) =
      of_settled reason
      (subst (λ (v : List ℕ). IsReasonOfContent no_mends.NONE v reason) (settled_is settled edits mark is_settled) why)

  pub too_long_itself : (reason : Unmended) → IsReason no_mends.NONE file reason → IsTooLongItself reason
  too_long_itself reason (cut, is_cut, why) =
      reason_for reason
      (subst (λ (v : List ℕ). IsReasonFor no_mends.NONE v reason)
      (nothing_cut file apart passes.accepts cut is_cut) why)
