-- What comes of a file that is mended by itself.
use Rattle.std.proofs.Common.{◌≡◌, inl, inr, ℕ, ◌==◌, Bool, true, false, List, [], ◌++◌, length, refl, sym}
use Rattle.std.proofs.Common.{ap, ap₂, ◌∙◌, append_assoc, subst, subst₂, true≢false, Option, None, Some}
use Rattle.std.specs.Prelude.{if◌then◌else◌, ◌&&◌}
use Rattle.ans_model.specs.Bytes.{most_lines}
use Rattle.ans_model.specs.File.Layout.{FileParts, content}
use Rattle.ans_model.specs.File.Record.{stated_lines, stated_size}
use Rattle.ans_model.specs.File.Refusals.{Accepts, has_record}
use Rattle.ans_model.specs.Screen.State.{Size}
use Rattle.ans_model.specs.Screen.StartClass.{all_known, none_known}
use Rattle.ans_model.specs.Verdict.Good.{Picture, GoodWith}
use Rattle.ans_sauce.specs.Found.{front_in, record_in}
use Rattle.ans_sauce.proofs.LaidParts.{laid_record}
use Rattle.ans_play_laws.proofs.OneEnd.{one_picture}
use Rattle.ans_sauce.specs.Fields.{with_file_size}
use Rattle.ans_sauce.proofs.ResizedFiles.{resized_accepted, resized_size}
use Rattle.ans_sauce.specs.Contents.{content_in}
use Rattle.ans_mend.specs.EndMark.{with_end_mark}
use Rattle.ans_sauce.specs.Fields.{with_lines, with_record}
use Rattle.ans_mend.specs.declared.outcome.Edits.{Edits}
use Rattle.ans_mend.specs.declared.outcome.Mended.{Mended}
use Rattle.ans_model.specs.declared.mends.Mends.{Mends}
use Rattle.ans_model.specs.declared.mends.TheConstants.Mends as no_mends
use Rattle.ans_verdict.specs.FileVerdict.{Passes}
use Rattle.ans_mend.specs.Mending.{AreLinesFor, IsEdited, IsEditedAsStated, IsMended, TakesLines, front_bytes}
use Rattle.ans_mend.specs.Mending.{lacks_lines, lined, opened}
use Rattle.ans_check_laws.proofs.WholeFiles.{nothing_cut}
use Rattle.ans_sauce.proofs.RecordLemmas.{record_behind}
use Rattle.ans_check_laws.proofs.MarkedContents.{marked_content, marked_record}

-- ---- nothing is asked for

nothing_lacks : (file : List ℕ) → lacks_lines no_mends.NONE file ≡ false
nothing_lacks file = go (has_record file) (stated_lines (record_in file) == 0)
  where
    go : (recorded unstated : Bool) → (recorded && (unstated && false)) ≡ false
    go true true = refl
    go true false = refl
    go false unstated = refl

pub not_opened : (file : List ℕ) → opened no_mends.NONE file ≡ file
not_opened file =
    ap (λ (lacks : Bool). if lacks then with_record (with_lines most_lines (record_in file)) file else file)
    (nothing_lacks file)

pub not_edited : (z : Size) (file edited : List ℕ) (edits : Edits) → IsEdited no_mends.NONE z file edited edits
    → edited ≡ file
not_edited z file edited edits h = h.named.0 ∙ h.ends.0 ∙ h.rows.0 ∙ h.sequences.2 ∙ h.sequences.1.0

not_asked : (lacks : Bool) (sauce bytes : List ℕ) (lines : ℕ) → TakesLines no_mends.NONE lacks sauce bytes lines → ⊥
not_asked lacks sauce bytes lines (wants, inl given) = absurd (none_given given)
  where
    none_given : ◌≡◌ {A = Option ℕ} None (Some lines) → ⊥
    none_given e = cc
not_asked lacks sauce bytes lines (wants, inr (asks, least)) = true≢false (sym asks.1)

pub not_lined : (lacks : Bool) (file : List ℕ) (lines : Option ℕ) → AreLinesFor no_mends.NONE lacks file lines
    → lined lines file ≡ file
not_lined lacks file None h = refl
not_lined lacks file (Some lines) h = absurd (not_asked lacks (record_in file) (content_in file) lines h)

-- ---- an accepted file that is settled as it is, but for an end mark
module _ (mends : Mends) (file : List ℕ) (mended : Mended) (draft : List ℕ) (h : IsMended mends file mended draft)
    (apart : FileParts) (accepts : Accepts file apart) (stays : h.settled ≡ with_end_mark file) where
  abbrev written : List ℕ
  written = front_bytes mended.front ++ draft

  settled_record : record_in h.settled ≡ apart.record_bytes
  settled_record = ap record_in stays ∙ marked_record file apart accepts.laid

  pub settled_content : content_in h.settled ≡ content apart.body
  settled_content = ap content_in stays ∙ marked_content file apart accepts.laid

  abbrev resized_record : List ℕ
  resized_record = with_file_size mended.file_size.is apart.record_bytes

  written_record : h.apart.record_bytes ≡ resized_record
  written_record =
      let size : length resized_record ≡ 128 =
      (resized_accepted [] refl mended.file_size.is file apart accepts).laid.size in
      let whole : written ≡ (front_bytes mended.front ++ front_in h.settled) ++ resized_record =
      ap (λ (v : List ℕ). front_bytes mended.front ++ v)
      (h.draft_is ∙ ap (λ (v : List ℕ). front_in h.settled ++ with_file_size mended.file_size.is v) settled_record)
      ∙ sym (append_assoc (front_bytes mended.front) (front_in h.settled) resized_record) in
      sym (laid_record written h.apart h.accepts.laid) ∙ ap record_in whole
      ∙ record_behind (front_bytes mended.front ++ front_in h.settled) resized_record size

  pub same_size : stated_size h.apart.record_bytes ≡ stated_size apart.record_bytes
  same_size = ap stated_size written_record ∙ resized_size [] refl mended.file_size.is file apart accepts

  pub same_picture : (picture : Picture)
      → GoodWith (stated_size apart.record_bytes) all_known (content apart.body) picture → h.picture ≡ picture
  same_picture picture good =
      let z : Size = stated_size apart.record_bytes in
      let moved : GoodWith z all_known (content apart.body) h.picture =
      subst₂ (λ (v : Size) (bytes : List ℕ). GoodWith v all_known bytes h.picture) same_size settled_content
      h.from_cleared in
      one_picture z all_known all_known (content apart.body) h.picture picture moved good

-- ---- by itself
module _ (file : List ℕ) (mended : Mended) (draft : List ℕ) (h : IsMended no_mends.NONE file mended draft) where
  itself_opened : opened h.asked h.based ≡ h.cut
  itself_opened =
      ap₂ (λ (m : Mends) (v : List ℕ). opened m v) h.asked_is h.based_is ∙ not_opened h.cut

  itself_edited : h.steps.edited ≡ h.cut
  itself_edited =
      not_edited (stated_size (record_in h.cut)) h.cut h.steps.edited mended.edits
      (subst₂ (λ (m : Mends) (v : List ℕ). IsEditedAsStated m v h.steps.edited mended.edits) h.asked_is itself_opened
      h.steps.is_edited)

  itself_lined : lined h.steps.lines h.steps.edited ≡ h.cut
  itself_lined =
      not_lined (lacks_lines h.asked h.based) h.steps.edited h.steps.lines
      (subst (λ (m : Mends). AreLinesFor m (lacks_lines h.asked h.based) h.steps.edited h.steps.lines) h.asked_is
      h.steps.are_lines)
      ∙ itself_edited

  -- what is written is the file without its tail, with an end mark, and with another FileSize
  itself_settled : h.settled ≡ with_end_mark h.cut
  itself_settled = h.steps.settled_is ∙ ap with_end_mark itself_lined

  accepted_settled : (apart : FileParts) → Accepts file apart → h.settled ≡ with_end_mark file
  accepted_settled apart accepts = itself_settled ∙ ap with_end_mark (nothing_cut file apart accepts h.cut h.is_cut)

-- A file that passes from the cleared start, mended by itself, passes from every start with the same picture.
pub mending_keeps : (file draft : List ℕ) (apart : FileParts) (picture : Picture) (mended : Mended)
    → Passes file all_known apart picture → IsMended no_mends.NONE file mended draft
    → (new : FileParts) × Passes (front_bytes mended.front ++ draft) none_known new picture
    × (stated_size new.record_bytes ≡ stated_size apart.record_bytes)
mending_keeps file draft apart picture mended passes h =
    let stays = accepted_settled file mended draft h apart passes.accepts in (
      h.apart,
      record {
        accepts = h.accepts;
        good = subst (λ (v : Picture). GoodWith (stated_size h.apart.record_bytes) none_known (content h.apart.body) v)
            (same_picture no_mends.NONE file mended draft h apart passes.accepts stays picture passes.good)
            h.from_every;
      },
      same_size no_mends.NONE file mended draft h apart passes.accepts stays,
    )
