-- A file with a record of which nothing else is known, and what stands before its record.
use Rattle.std.proofs.Common.{◌≡◌, ℕ, ◌+◌, ◌-◌, ◌≤◌, Bool, true, List, ◌++◌, length, take, drop, sym, ap, ap₂}
use Rattle.std.proofs.Common.{◌∙◌, arith}
use Rattle.std.specs.Prelude.{codes, ◌&&◌, nat_le, bytes_eq}
use Rattle.std.specs.List.{position_or_len}
use Rattle.std.proofs.lemmas.Bool.{and_parts, leb-true, le-leb}
use Rattle.std.proofs.lemmas.List.{length-append, length-drop, length-take-le, take-append-drop}
use Rattle.std.proofs.Math.Seq.{take-append_seam, drop-append_seam}
use Rattle.ans_model.specs.File.Layout.{is_end_mark}
use Rattle.ans_model.specs.File.Record.{comment_count}
use Rattle.ans_model.specs.File.Refusals.{block_size, has_record}
use Rattle.ans_sauce.specs.Contents.{content_in}
use Rattle.ans_sauce.specs.Found.{body_in, front_in, record_in}

-- a front, and what is not of it
pub length_front : (xs : List ℕ) (n : ℕ) → length (take n xs) + (length xs - n) ≡ length xs
length_front xs n =
    ap (λ (v : ℕ). length (take n xs) + v) (sym (length-drop n xs)) ∙ sym (length-append (take n xs) (drop n xs))
    ∙ ap length (take-append-drop n xs)

pub front_shorter : (xs : List ℕ) (n : ℕ) → length (take n xs) ≤ length xs
front_shorter xs n = let few = length_front xs n in omega (arith, few)

pub content_before : (file : List ℕ) → length (content_in file) ≤ length (front_in file)
content_before file =
    let body = front_shorter (front_in file) (length (front_in file) - block_size (comment_count (record_in file))) in
    let few = front_shorter (body_in file) (position_or_len is_end_mark (body_in file)) in
    omega (arith, body, few)

pub content_within : (file : List ℕ) → 128 ≤ length file → length (content_in file) + 128 ≤ length file
content_within file long =
    let before = content_before file in
    let front : length (front_in file) ≡ length file - 128 = length-take-le (length file - 128) file (omega arith) in
    omega (arith, before, front, long)

-- ---- what stands behind any bytes is the record of the whole, where it is as long as one
module _ (bytes record_bytes : List ℕ) (size : length record_bytes ≡ 128) where
  cut_is : length (bytes ++ record_bytes) - 128 ≡ length bytes
  cut_is =
      let all : length (bytes ++ record_bytes) ≡ length bytes + length record_bytes =
      length-append bytes record_bytes in
      omega (arith, all, size)

  pub record_behind : record_in (bytes ++ record_bytes) ≡ record_bytes
  record_behind = ap (λ (v : ℕ). drop v (bytes ++ record_bytes)) cut_is ∙ drop-append_seam bytes record_bytes

  pub front_before : front_in (bytes ++ record_bytes) ≡ bytes
  front_before = ap (λ (v : ℕ). take v (bytes ++ record_bytes)) cut_is ∙ take-append_seam bytes record_bytes

  pub body_before : body_in (bytes ++ record_bytes)
      ≡ take (length bytes - block_size (comment_count record_bytes)) bytes
  body_before =
      ap₂ (λ (f r : List ℕ). take (length f - block_size (comment_count r)) f) front_before record_behind

-- ---- a file that has a record
pub recorded_long : (file : List ℕ) → has_record file ≡ true → 128 ≤ length file
recorded_long file has =
    leb-true 128 (length file)
    (and_parts (nat_le 128 (length file)) (bytes_eq (take 5 (record_in file)) (codes "SAUCE")) has).0

pub recorded_id : (file : List ℕ) → has_record file ≡ true → bytes_eq (take 5 (record_in file)) (codes "SAUCE") ≡ true
recorded_id file has =
    (and_parts (nat_le 128 (length file)) (bytes_eq (take 5 (record_in file)) (codes "SAUCE")) has).1

pub has_by : (file : List ℕ) → 128 ≤ length file → bytes_eq (take 5 (record_in file)) (codes "SAUCE") ≡ true
    → has_record file ≡ true
has_by file long id = ap₂ (λ (a b : Bool). a && b) (le-leb 128 (length file) long) id

-- its record has as many bytes as a record has
pub record_length : (file : List ℕ) → 128 ≤ length file → length (record_in file) ≡ 128
record_length file long = length-drop (length file - 128) file ∙ omega (arith, long)
