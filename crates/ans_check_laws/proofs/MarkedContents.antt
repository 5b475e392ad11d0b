-- An end mark that is put behind a content changes neither the content nor the record.
use Rattle.std.proofs.Common.{◌≡◌, ℕ, suc, ◌+◌, Bool, true, false, List, [], ◌∷◌, ◌++◌, length, take, refl}
use Rattle.std.proofs.Common.{sym, ap, ap₂, ◌∙◌, arith, append_assoc, true≢false}
use Rattle.std.specs.Prelude.{if◌then◌else◌, not, ◌&&◌}
use Rattle.std.specs.List.{list_any, position_or_len}
use Rattle.std.proofs.Math.Seq.{take-append_seam, drop-append_seam}
use Rattle.ans_model.specs.Bytes.{end_mark}
use Rattle.ans_model.specs.File.Layout.{FileParts, Laid, comment_block, content, file_parts, is_end_mark, laid_file}
use Rattle.ans_model.specs.File.Record.{comment_count}
use Rattle.ans_model.specs.File.Refusals.{has_record}
use Rattle.ans_sauce.specs.Found.{body_in, record_in}
use Rattle.ans_sauce.proofs.LaidParts.{laid_body, laid_record, laid_has_record}
use Rattle.ans_sauce.specs.Contents.{content_in}
use Rattle.ans_mend.specs.Drafts.{with_byte}
use Rattle.ans_mend.specs.EndMark.{lacks_end_mark, with_end_mark}

one_and : (n : ℕ) → 1 + n ≡ suc n
one_and n = omega arith

pub content_marked : (body : List ℕ) → list_any is_end_mark body ≡ false
    → content (body ++ end_mark ∷ []) ≡ content body
content_marked [] none = refl
content_marked (b ∷ body) none = go (is_end_mark b) refl (content_marked body)
  where
    one_more : (xs : List ℕ) (n : ℕ) → take (1 + n) (b ∷ xs) ≡ b ∷ take n xs
    one_more xs n = ap (λ (v : ℕ). take v (b ∷ xs)) (one_and n)

    go : (marked : Bool) → is_end_mark b ≡ marked
        → (list_any is_end_mark body ≡ false → content (body ++ end_mark ∷ []) ≡ content body)
        → content (b ∷ (body ++ end_mark ∷ [])) ≡ content (b ∷ body)
    go true is more = absurd (true≢false (rw is at none))
    go false is more =
        let behind : list_any is_end_mark body ≡ false = rw is at none in
        let marked : List ℕ = body ++ end_mark ∷ [] in
        let same : b ∷ content marked ≡ b ∷ content body = ap (λ (v : List ℕ). b ∷ v) (more behind) in
        rw is (one_more marked (position_or_len is_end_mark marked) ∙ same
        ∙ sym (one_more body (position_or_len is_end_mark body)))

pub unmarked : (recorded marks : Bool) → (recorded && not marks) ≡ true → marks ≡ false
unmarked true true is = absurd (true≢false (sym is))
unmarked true false is = refl
unmarked false marks is = absurd (true≢false (sym is))

module _ (file : List ℕ) (apart : FileParts) (laid : Laid file apart) where
  abbrev behind_body : List ℕ
  behind_body = comment_block (comment_count apart.record_bytes) apart.comment_bytes ++ apart.record_bytes

  abbrev pub marked_file : List ℕ
  marked_file = with_byte (length (body_in file)) end_mark file

  abbrev pub marked_parts : FileParts
  marked_parts = file_parts (apart.body ++ end_mark ∷ []) apart.comment_bytes apart.record_bytes

  marked_whole : marked_file ≡ laid_file marked_parts
  marked_whole =
      ap₂ (λ (v w : List ℕ). with_byte (length v) end_mark w) (laid_body file apart laid) laid.whole
      ∙ ap₂ (λ (v w : List ℕ). v ++ end_mark ∷ w) (take-append_seam apart.body behind_body)
      (drop-append_seam apart.body behind_body)
      ∙ sym (append_assoc apart.body (end_mark ∷ []) behind_body)

  pub marked_laid : Laid marked_file marked_parts
  marked_laid = record { size = laid.size; id = laid.id; comments = laid.comments; whole = marked_whole }

  -- the file with an end mark, where it lacks one
  abbrev marked_if : Bool → List ℕ
  marked_if lacks = if lacks then marked_file else file

  pub marked_record : record_in (with_end_mark file) ≡ apart.record_bytes
  marked_record = go (lacks_end_mark file)
    where
      go : (lacks : Bool) → record_in (marked_if lacks) ≡ apart.record_bytes
      go true = laid_record marked_file marked_parts marked_laid
      go false = laid_record file apart laid

  pub marked_content : content_in (with_end_mark file) ≡ content apart.body
  marked_content = go (lacks_end_mark file) refl
    where
      go : (lacks : Bool) → lacks_end_mark file ≡ lacks → content_in (marked_if lacks) ≡ content apart.body
      go true is =
          let none : list_any is_end_mark (body_in file) ≡ false =
          unmarked (has_record file) (list_any is_end_mark (body_in file)) is in
          ap content (laid_body marked_file marked_parts marked_laid)
          ∙ content_marked apart.body (ap (list_any is_end_mark) (sym (laid_body file apart laid)) ∙ none)
      go false is = ap content (laid_body file apart laid)

  pub marked_stays : list_any is_end_mark apart.body ≡ true → with_end_mark file ≡ file
  marked_stays is =
      let marks : list_any is_end_mark (body_in file) ≡ true =
      ap (list_any is_end_mark) (laid_body file apart laid) ∙ is in
      let lacks : lacks_end_mark file ≡ false =
      ap₂ (λ (a b : Bool). a && not b) (laid_has_record file apart laid) marks in
      ap marked_if lacks
