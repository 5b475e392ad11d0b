-- Where the parts of a file stand in it.
use Rattle.std.proofs.Common.{◌≡◌, ℕ, ◌+◌, ◌-◌, ◌*◌, ◌==◌, Bool, true, false, List, ◌++◌, length, take}
use Rattle.std.proofs.Common.{drop, refl, sym, ap, ap₂, ◌∙◌, arith, append_assoc, codes}
use Rattle.std.specs.Prelude.{bytes_eq, nat_le}
use Rattle.std.proofs.lemmas.Bool.{le-leb}
use Rattle.std.proofs.lemmas.List.{length-append}
use Rattle.std.proofs.Math.Seq.{take-append_seam, drop-append_seam}
use Rattle.ans_model.specs.File.Layout.{FileParts, Laid, comment_block}
use Rattle.ans_model.specs.File.Record.{comment_count}
use Rattle.ans_model.specs.File.Refusals.{block_size, has_record}
use Rattle.ans_sauce.specs.Found.{body_in, front_in, record_in}

-- a block of so many comments has so many bytes
pub block_length : (count : ℕ) (comment_bytes : List ℕ) → length comment_bytes ≡ 64 * count
    → length (comment_block count comment_bytes) ≡ block_size count
block_length count comment_bytes lines = go (count == 0) refl
  where
    go : (none : Bool) → (count == 0) ≡ none → length (comment_block count comment_bytes) ≡ block_size count
    go true is = rw is refl
    go false is = rw is (length-append (codes "COMNT") comment_bytes ∙ ap (λ (v : ℕ). 5 + v) lines)

module _ (file : List ℕ) (parts : FileParts) (laid : Laid file parts) where
  abbrev block : List ℕ
  block = comment_block (comment_count parts.record_bytes) parts.comment_bytes

  cut_whole : file ≡ (parts.body ++ block) ++ parts.record_bytes
  cut_whole = laid.whole ∙ sym (append_assoc parts.body block parts.record_bytes)

  front_length : length file - 128 ≡ length (parts.body ++ block)
  front_length =
      let all : length file ≡ length (parts.body ++ block) + length parts.record_bytes =
      ap length cut_whole ∙ length-append (parts.body ++ block) parts.record_bytes in
      let size = laid.size in omega (arith, all, size)

  pub laid_front : front_in file ≡ parts.body ++ block
  laid_front = ap₂ take front_length cut_whole ∙ take-append_seam (parts.body ++ block) parts.record_bytes

  pub laid_record : record_in file ≡ parts.record_bytes
  laid_record = ap₂ drop front_length cut_whole ∙ drop-append_seam (parts.body ++ block) parts.record_bytes

  pub laid_body : body_in file ≡ parts.body
  laid_body =
      let size : length (parts.body ++ block) - block_size (comment_count parts.record_bytes) ≡ length parts.body =
      rw (
        length-append parts.body block,
        block_length (comment_count parts.record_bytes) parts.comment_bytes laid.comments,
      ) (omega arith) in
      ap₂ (λ (f r : List ℕ). take (length f - block_size (comment_count r)) f) laid_front laid_record
      ∙ ap (λ (v : ℕ). take v (parts.body ++ block)) size ∙ take-append_seam parts.body block

  pub laid_has_record : has_record file ≡ true
  laid_has_record =
      let all : length file ≡ length (parts.body ++ block) + length parts.record_bytes =
      ap length cut_whole ∙ length-append (parts.body ++ block) parts.record_bytes in
      let size = laid.size in
      let long : nat_le 128 (length file) ≡ true = le-leb 128 (length file) (omega (arith, all, size)) in
      let id : bytes_eq (take 5 (record_in file)) (codes "SAUCE") ≡ true =
      ap (λ (v : List ℕ). bytes_eq v (codes "SAUCE")) (ap (take 5) laid_record ∙ laid.id) in
      rw long id

  -- the front is as long as the body and the block
  pub laid_lengths : length (front_in file) ≡ length parts.body + block_size (comment_count parts.record_bytes)
  laid_lengths =
      ap length laid_front ∙ length-append parts.body block
      ∙ ap (λ (v : ℕ). length parts.body + v)
      (block_length (comment_count parts.record_bytes) parts.comment_bytes laid.comments)
