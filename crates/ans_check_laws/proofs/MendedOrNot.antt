-- A file that is mended has no reason not to be.
use Rattle.std.proofs.Common.{◌≡◌, inl, inr, ℕ, ◌+◌, ◌-◌, ◌≤◌, ◌<◌, Bool, true, false, List, [], ◌++◌, length}
use Rattle.std.proofs.Common.{refl, sym, ap, ap₂, ◌∙◌, arith, subst, subst₂, true≢false, Option, None, Some}
use Rattle.std.specs.Prelude.{IsTrue, ◌↔◌}
use Rattle.std.proofs.lemmas.List.{length-append, length-take-le}
use Rattle.ans_model.specs.Bytes.{longest_file}
use Rattle.ans_model.specs.File.Record.{stated_size}
use Rattle.ans_model.specs.Screen.State.{Size}
use Rattle.ans_model.specs.Screen.StartClass.{all_known}
use Rattle.ans_model.specs.Verdict.Good.{IsGood}
use Rattle.ans_model.specs.declared.fault.Fault.{Fault}
use Rattle.ans_model.proofs.AcceptedFiles.{no_fault}
use Rattle.ans_sauce.specs.Found.{front_in, record_in}
use Rattle.ans_sauce.specs.Judged.{IsRecordFault}
use Rattle.ans_sauce.proofs.LaidParts.{laid_record}
use Rattle.ans_model.specs.Screen.Beginning.{mending}
use Rattle.ans_sauce.specs.Fields.{with_file_size}
use Rattle.ans_sauce.proofs.ResizedFiles.{resized_accepted, resized_size}
use Rattle.ans_sauce.specs.Contents.{content_in}
use Rattle.ans_mend.specs.EndMark.{with_end_mark}
use Rattle.ans_mend.specs.declared.outcome.Edits.{Edits}
use Rattle.ans_mend.specs.declared.outcome.Mended.{Mended}
use Rattle.ans_mend.specs.declared.outcome.Unmended.{Unmended}
use Rattle.ans_mend.specs.declared.outcome.Unmended.TheVariants.{Refused, TakesNoRecord, Torn, NoLines, TooLong}
use Rattle.ans_model.specs.declared.mends.Mends.{Mends}
use Rattle.ans_mend.specs.Mending.{AreLinesFor, AsksForLeast, IsMended, IsRead, IsReason}
use Rattle.ans_mend.specs.Mending.{IsReasonFor, IsReasonOfContent, IsReasonOfEdited, IsReasonOfLines, IsSettled}
use Rattle.ans_mend.specs.Mending.{IsWithoutNumber, KeepsLines, TakesLines, WantsLines, WantsMending, asked_for}
use Rattle.ans_mend.specs.Mending.{front_bytes, lacks_lines, lined, opened, recorded}
use Rattle.ans_verdict.proofs.VerdictLemmas.{not_good}
use Rattle.ans_check_laws.proofs.EditedOnce.{least_asks, none_or_some, one_cut, one_edited, one_lines, one_torn}
use Rattle.ans_check_laws.proofs.MendedTwice.{its_record}
use Rattle.ans_check_laws.proofs.WholeFiles.{accepted_long}

-- what is accepted has no fault of its record
pub read_or_refused : (file : List ℕ) (fault : Fault) → IsRead file → IsRecordFault file fault → ⊥
read_or_refused file fault (apart, accepts) refused =
    let e : ◌≡◌ {A = Option Fault} None (Some fault) = sym (no_fault file apart accepts) ∙ refused in cc

-- where lines are settled, their number is no reason
module _ (mends : Mends) (lacks : Bool) (sauce bytes : List ℕ) (reason : Unmended) where
  without_number : (reason : Unmended) (n : ℕ) → TakesLines mends lacks sauce bytes n → AsksForLeast mends
      → IsWithoutNumber lacks sauce bytes reason → ⊥
  without_number Torn n (wants, inl given) asks why = none_or_some mends.lines n asks.0 given
  without_number Torn n (wants, inr (least_asked, least)) asks (m, torn) = one_torn lacks sauce bytes m n torn least
  without_number NoLines n (wants, inl given) asks why = none_or_some mends.lines n asks.0 given
  without_number NoLines n (wants, inr (least_asked, (within, least, torn))) asks (lack, never) =
      never n within least.enough
  without_number (Refused fault) n takes asks why = why
  without_number (TakesNoRecord fault) n takes asks why = why
  without_number TooLong n takes asks why = why

  kept_without : (reason : Unmended) → KeepsLines mends lacks sauce bytes → WantsLines lacks sauce bytes
      → AsksForLeast mends → IsWithoutNumber lacks sauce bytes reason → ⊥
  kept_without reason (none_lack, why) (inl lack) asks number = true≢false (sym lack ∙ none_lack)
  kept_without reason (none_lack, inl good) (inr bad) asks number = bad good
  kept_without reason (none_lack, inr (inl never)) (inr bad) asks number =
      true≢false (sym (least_asks mends asks) ∙ never)
  kept_without Torn (none_lack, inr (inr (least_asked, never))) (inr bad) asks (n, (within, least, torn)) =
      never n within least.enough
  kept_without NoLines (none_lack, inr (inr (least_asked, never))) (inr bad) asks (lack, none) =
      true≢false (sym lack ∙ none_lack)
  kept_without (Refused fault) (none_lack, inr (inr never)) (inr bad) asks number = number
  kept_without (TakesNoRecord fault) (none_lack, inr (inr never)) (inr bad) asks number = number
  kept_without TooLong (none_lack, inr (inr never)) (inr bad) asks number = number

module _ (mends : Mends) (file draft : List ℕ) (mended : Mended) (h : IsMended mends file mended draft) where
  abbrev lacks : Bool
  lacks = lacks_lines h.asked h.based

  abbrev z : Size
  z = stated_size (record_in h.settled)

  lines_or_reason : (lines : Option ℕ) (reason : Unmended) → AreLinesFor h.asked lacks h.steps.edited lines
      → IsReasonOfLines h.asked lacks (record_in h.steps.edited) (content_in h.steps.edited) reason → ⊥
  lines_or_reason None reason keeps (wants, asks, number) =
      kept_without h.asked lacks (record_in h.steps.edited) (content_in h.steps.edited) reason reason keeps wants asks
      number
  lines_or_reason (Some n) reason takes (wants, asks, number) =
      without_number h.asked lacks (record_in h.steps.edited) (content_in h.steps.edited) reason reason n takes asks
      number

  of_edited : (reason : Unmended) → IsReasonOfEdited h.asked lacks h.steps.edited reason → ⊥
  of_edited reason (inl (is, long)) = let fits = h.steps.edited_sound.1 in omega (arith, long, fits)
  of_edited reason (inr (inl (fault, is, refused))) =
      read_or_refused h.steps.edited fault h.steps.edited_sound.0 refused
  of_edited reason (inr (inr why)) = lines_or_reason h.steps.lines reason h.steps.are_lines why

  -- the settled file states the size of the one that is written
  same_size : stated_size h.apart.record_bytes ≡ z
  same_size =
      let (apart, accepts) = h.settled_sound.0 in
      let same : record_in h.settled ≡ apart.record_bytes = laid_record h.settled apart accepts.laid in
      ap stated_size (its_record mends file mended draft h)
      ∙ ap (λ (v : List ℕ). stated_size (with_file_size mended.file_size.is v)) same
      ∙ resized_size [] refl mended.file_size.is h.settled apart accepts ∙ ap stated_size (sym same)

  passes : IsGood z all_known (content_in h.settled)
  passes =
      subst (λ (v : Size). IsGood v all_known (content_in h.settled)) same_size (h.picture, h.from_cleared)

  no_room : longest_file < length h.settled + length mending → WantsMending h.asked z (content_in h.settled) → ⊥
  no_room long wants = go mended.front h.front h.room
    where
      as_long : length draft ≡ length h.settled
      as_long =
          let (apart, accepts) = h.settled_sound.0 in
          let r : List ℕ = with_file_size mended.file_size.is (record_in h.settled) in
          let size : length r ≡ 128 =
          ap (λ (v : List ℕ). length (with_file_size mended.file_size.is v))
          (laid_record h.settled apart accepts.laid)
          ∙ (resized_accepted [] refl mended.file_size.is h.settled apart accepts).laid.size in
          let long = accepted_long h.settled apart accepts in
          let front : length (front_in h.settled) ≡ length h.settled - 128 =
          length-take-le (length h.settled - 128) h.settled (omega arith) in
          let all : length draft ≡ length (front_in h.settled) + length r =
          ap length h.draft_is ∙ length-append (front_in h.settled) r in
          omega (arith, all, front, size, long)

      go : (front : Bool)
          → IsTrue front ↔ WantsMending h.asked (stated_size h.apart.record_bytes) (content_in h.settled)
          → length (front_bytes front ++ draft) ≤ longest_file → ⊥
      go true tells room =
          let all : length (mending ++ draft) ≡ length mending + length draft = length-append mending draft in
          omega (arith, long, all, as_long, room)
      go false tells room =
          true≢false (sym (tells.1 (subst (λ (v : Size). WantsMending h.asked v (content_in h.settled))
          (sym same_size) wants)))

  of_settled : (reason : Unmended) → IsReasonOfContent h.asked h.settled reason → ⊥
  of_settled (Refused fault) (inl refused) = read_or_refused h.settled fault h.settled_sound.0 refused
  of_settled (Refused fault) (inr deserves) =
      not_good z all_known (content_in h.settled) fault deserves passes
  of_settled TooLong (inl long) = let fits = h.settled_sound.1 in omega (arith, long, fits)
  of_settled TooLong (inr (long, wants, good)) = no_room long wants
  of_settled (TakesNoRecord fault) why = why
  of_settled Torn why = why
  of_settled NoLines why = why

  -- what is settled is one
  same_settled : (settled : List ℕ) (edits : Edits) (mark : Option ℕ) → IsSettled h.asked h.based edits mark settled
      → settled ≡ h.settled
  same_settled settled edits mark g =
      let edited : g.edited ≡ h.steps.edited =
      one_edited h.asked (stated_size (record_in (opened h.asked h.based))) (opened h.asked h.based) g.edited
      h.steps.edited
      edits mended.edits g.is_edited h.steps.is_edited in
      let moved : AreLinesFor h.asked lacks h.steps.edited g.lines =
      subst (λ (v : List ℕ). AreLinesFor h.asked lacks v g.lines) edited g.are_lines in
      let lines : g.lines ≡ h.steps.lines =
      one_lines h.asked lacks h.steps.edited g.lines h.steps.lines moved h.steps.are_lines in
      g.settled_is ∙ ap₂ (λ (v : Option ℕ) (w : List ℕ). with_end_mark (lined v w)) lines edited
      ∙ sym h.steps.settled_is

  no_reason_for : (reason : Unmended) → IsReasonFor h.asked h.based reason → ⊥
  no_reason_for reason (inl (is, inl long)) = let fits = h.based_fits in omega (arith, long, fits)
  no_reason_for reason (inl (is, inr long)) = let fits = h.steps.is_edited.fits in omega (arith, long, fits)
  no_reason_for reason (inr (inl (fault, is, refused))) =
      read_or_refused (opened h.asked h.based) fault h.steps.opened_read refused
  no_reason_for reason (inr (inr (inl (read, edited, edits, is_edited, why)))) =
      let same : edited ≡ h.steps.edited =
      one_edited h.asked (stated_size (record_in (opened h.asked h.based))) (opened h.asked h.based) edited
      h.steps.edited
      edits mended.edits is_edited h.steps.is_edited in
      of_edited reason (subst (λ (v : List ℕ). IsReasonOfEdited h.asked lacks v reason) same why)
  no_reason_for reason (inr (inr (inr (settled, edits, mark, is_settled, why)))) =
      of_settled reason
      (subst (λ (v : List ℕ). IsReasonOfContent h.asked v reason) (same_settled settled edits mark is_settled) why)

  pub mended_or_not : (reason : Unmended) → ¬ IsReason mends file reason
  mended_or_not reason (cut, is_cut, why) =
      let same : cut ≡ h.cut = one_cut file cut h.cut is_cut h.is_cut in
      let at_cut : IsReasonFor (asked_for mends h.cut) (recorded mends h.cut) reason =
      subst (λ (v : List ℕ). IsReasonFor (asked_for mends v) (recorded mends v) reason) same why in
      no_reason_for reason
      (subst₂ (λ (m : Mends) (v : List ℕ). IsReasonFor m v reason) (sym h.asked_is) (sym h.based_is) at_cut)
