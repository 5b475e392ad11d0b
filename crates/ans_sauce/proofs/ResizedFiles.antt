-- A file with bytes before its content, and with another FileSize.
use Rattle.std.proofs.Common.{◌≡◌, ℕ, ◌+◌, ◌*◌, ◌<◌, ◌≤◌, ◌==◌, List, ◌++◌}
use Rattle.std.proofs.Common.{length, take, drop, refl, ap, ap₂, sym, ◌∙◌, arith, append_assoc, false}
use Rattle.std.proofs.lemmas.List.{length-append, length-drop, length-take-le, take-append-drop, take-append-le}
use Rattle.std.proofs.lemmas.List.{drop-append-le}
use Rattle.std.proofs.lemmas.Slice.{drop-append-drop}
use Rattle.std.proofs.Math.Seq.{drop-append-add, drop-append_seam, take-append_seam}
use Rattle.std.specs.Prelude.{if◌then◌else◌}
use Rattle.std.specs.List.{list_any, list_all}
use Rattle.ans_model.specs.File.Layout.{FileParts, after_content, content, is_end_mark, laid_file}
use Rattle.ans_model.specs.File.Record.{comment_count, date_field, field, file_size, flags, number, stated_size, tinfo}
use Rattle.ans_model.specs.File.Refusals.{Accepts}
use Rattle.ans_model.specs.Screen.State.{sized}
use Rattle.ans_sauce.specs.Fields.{four_bytes, resized_parts, with_file_size}
use Rattle.ans_sauce.proofs.ContentLemmas.{content_append}
use Rattle.ans_sauce.proofs.Overwriting.{overwritten_length}

-- ---- the record
module _ (r : List ℕ) (is_record : length r ≡ 128) (n : ℕ) where
  front_length : length (take 90 r) ≡ 90
  front_length = length-take-le 90 r (omega (arith, is_record))

  -- a field in front of the FileSize is the front's, whatever follows that
  field_in_front : (offset size : ℕ) (behind : List ℕ) → offset + size ≤ 90
      → field offset size (take 90 r ++ behind) ≡ field offset size (take 90 r)
  field_in_front offset size behind le =
      ap (take size) (drop-append-le offset (take 90 r) behind (omega (arith, front_length)))
      ∙ take-append-le size (drop offset (take 90 r)) behind
      (rw (length-drop offset (take 90 r), front_length) (omega arith))

  field_before : (offset size : ℕ) → offset + size ≤ 90
      → field offset size (with_file_size n r) ≡ field offset size r
  field_before offset size le =
      field_in_front offset size (four_bytes n ++ drop 94 r) le ∙ sym (field_in_front offset size (drop 90 r) le)
      ∙ ap (field offset size) (take-append-drop 90 r)

  field_behind : (offset size : ℕ) → 94 ≤ offset → field offset size (with_file_size n r) ≡ field offset size r
  field_behind offset size le =
      ap (field offset size) (sym (append_assoc (take 90 r) (four_bytes n) (drop 94 r)))
      ∙ ap (take size) (drop-append-drop 94 r (take 90 r ++ four_bytes n) offset le
      (length-append (take 90 r) (four_bytes n) ∙ ap (λ (v : ℕ). v + 4) front_length))

  its_file_size : n < 4294967296 → file_size (with_file_size n r) ≡ n
  its_file_size lt =
      let there : drop 90 (with_file_size n r) ≡ four_bytes n ++ drop 94 r =
      rw front_length at (drop-append_seam (take 90 r) (four_bytes n ++ drop 94 r)) in
      ap (λ (v : List ℕ). number (take 4 v)) there ∙ of_four_bytes n lt
    where
      of_four_bytes : (k : ℕ) → k < 4294967296 → number (four_bytes k) ≡ k
      of_four_bytes k lt = omega arith

  pub its_length : length (with_file_size n r) ≡ 128
  its_length = overwritten_length 90 (four_bytes n) r (omega (arith, is_record)) ∙ is_record

-- of two FileSizes the last is there
pub resized_again : (m n : ℕ) (r : List ℕ) → length r ≡ 128
    → with_file_size n (with_file_size m r) ≡ with_file_size n r
resized_again m n r size =
    let front : List ℕ = take 90 r in
    let long : length front ≡ 90 = length-take-le 90 r (omega (arith, size)) in
    let first : take 90 (with_file_size m r) ≡ front =
    ap (λ (v : ℕ). take v (with_file_size m r)) (sym long)
    ∙ take-append_seam front (four_bytes m ++ drop 94 r) in
    let longer : length (front ++ four_bytes m) ≡ 94 =
    length-append front (four_bytes m) ∙ ap (λ (v : ℕ). v + 4) long in
    let last : drop 94 (with_file_size m r) ≡ drop 94 r =
    ap₂ drop (sym longer) (sym (append_assoc front (four_bytes m) (drop 94 r)))
    ∙ drop-append_seam (front ++ four_bytes m) (drop 94 r) in
    ap₂ (λ (v w : List ℕ). v ++ (four_bytes n ++ w)) first last

-- ---- a file with bytes in front that have no end mark, and with this FileSize
module _ (front : List ℕ) (unmarked : list_any is_end_mark front ≡ false) (n : ℕ) (file : List ℕ) (apart : FileParts)
    (accepts : Accepts file apart) where
  abbrev r : List ℕ
  r = apart.record_bytes

  abbrev resized : FileParts
  resized = resized_parts front n apart

  before : (offset size : ℕ) → offset + size ≤ 90 → field offset size resized.record_bytes ≡ field offset size r
  before = field_before r accepts.laid.size n

  behind : (offset size : ℕ) → 94 ≤ offset → field offset size resized.record_bytes ≡ field offset size r
  behind = field_behind r accepts.laid.size n

  same_number : (offset size : ℕ) → 94 ≤ offset
      → number (field offset size resized.record_bytes) ≡ number (field offset size r)
  same_number offset size le = ap number (behind offset size le)

  pub resized_content : content resized.body ≡ front ++ content apart.body
  resized_content = content_append front apart.body unmarked

  resized_after : after_content resized.body ≡ after_content apart.body
  resized_after =
      ap (λ (v : List ℕ). drop (length v) (front ++ apart.body)) resized_content
      ∙ ap (λ (v : ℕ). drop v (front ++ apart.body)) (length-append front (content apart.body))
      ∙ drop-append-add front apart.body (length (content apart.body))

  pub resized_accepted : Accepts (laid_file resized) resized
  resized_accepted = record {
    laid = record {
      size = its_length r accepts.laid.size n;
      id = before 0 5 (omega arith) ∙ accepts.laid.id;
      comments = accepts.laid.comments ∙ ap (λ (v : ℕ). 64 * v) (sym (same_number 104 1 (omega arith)));
      whole = refl;
    };
    version_00 = before 5 2 (omega arith) ∙ accepts.version_00;
    character = same_number 94 1 (omega arith) ∙ accepts.character;
    ansi = same_number 95 1 (omega arith) ∙ accepts.ansi;
    lines_stated = rw (same_number 98 2 (omega arith)) accepts.lines_stated;
    width_in_limit = rw (same_number 96 2 (omega arith)) accepts.width_in_limit;
    lines_in_limit = rw (same_number 98 2 (omega arith)) accepts.lines_in_limit;
    clean_end = ap (list_all is_end_mark) resized_after ∙ accepts.clean_end;
  }

  pub resized_size : stated_size resized.record_bytes ≡ stated_size r
  resized_size =
      ap₂ (λ (w l : ℕ). sized (if w == 0 then 80 else w) l) (same_number 96 2 (omega arith))
      (same_number 98 2 (omega arith))

  pub resized_file_size : n < 4294967296 → file_size resized.record_bytes ≡ n
  resized_file_size = its_file_size r accepts.laid.size n

  pub resized_date : date_field resized.record_bytes ≡ date_field r
  resized_date = before 82 8 (omega arith)

  pub resized_flags : flags resized.record_bytes ≡ flags r
  resized_flags = same_number 105 1 (omega arith)

  pub resized_comments : comment_count resized.record_bytes ≡ comment_count r
  resized_comments = same_number 104 1 (omega arith)

  pub resized_width : tinfo 1 resized.record_bytes ≡ tinfo 1 r
  resized_width = same_number 96 2 (omega arith)
