-- A file without an older record.
use Rattle.std.proofs.Common.{◌≡◌, ℕ, ◌+◌, ◌-◌, ◌≤◌, Bool, true, false, List, ◌++◌, length, take, drop, refl, sym, ap}
use Rattle.std.proofs.Common.{◌∙◌, ap₂, arith, append_assoc}
use Rattle.std.specs.Prelude.{◌&&◌, nat_eq, nat_le, codes, Option, None, Some, if◌then◌else◌}
use Rattle.std.specs.List.{list_all, position_or_len, starts_with}
use Rattle.std.proofs.lemmas.Bool.{and_parts, leb-true}
use Rattle.std.proofs.lemmas.List.{drop-append-le, length-append, length-drop, length-take, take-append-drop}
use Rattle.std.proofs.lemmas.List.{length-take-le, take-append-le, take-take}
use Rattle.std.proofs.lemmas.List.Sums.{sum_by-append, sum_by-take-drop, sum_by-take-le}
use Rattle.std.proofs.Math.Seq.{take-append_seam}
use Rattle.ans_model.specs.File.Layout.{after_content, content, is_end_mark}
use Rattle.ans_model.specs.File.Record.{comment_count}
use Rattle.ans_model.specs.File.Refusals.{block_size, has_record}
use Rattle.ans_sauce.specs.Contents.{content_in}
use Rattle.ans_sauce.specs.Found.{after_end_mark, body_in, front_in, record_in}
use Rattle.ans_sauce.proofs.RecordLemmas.{front_shorter, recorded_long}
use Rattle.ans_mend.specs.LineEnds.{is_line_feed, line_feeds}
use Rattle.ans_mend.specs.OlderRecord.{has_older, is_older_record, older_gone, older_place, without_older}
use Rattle.ans_mend.specs.Tail.{is_tail_byte}
use Rattle.ans_mend.proofs.ContentFront.{left_behind_content}
use Rattle.ans_pens.specs.declared.times.Times.{Times}

-- ---- where it is

pub older_long : (bytes : List ℕ) → is_older_record bytes ≡ true → 128 ≤ length bytes
older_long bytes is =
    leb-true 128 (length bytes)
    (and_parts (nat_le 128 (length bytes))
    (starts_with nat_eq bytes (codes "SAUCE00") && list_all is_tail_byte (drop 128 bytes)) is).0

-- it ends in the front
pub older_within : (file : List ℕ) → is_older_record (after_end_mark file) ≡ true
    → older_place file + length (after_end_mark file) ≤ length (front_in file)
older_within file is =
    let body : List ℕ = body_in file in
    let long : 128 ≤ length (after_end_mark file) = older_long (after_end_mark file) is in
    let after : length (after_content body) ≡ length body - length (content body) =
    length-drop (length (content body)) body in
    let later : length (after_end_mark file) ≡ length (after_content body) - 1 = length-drop 1 (after_content body) in
    let shorter : length body ≤ length (front_in file) =
    front_shorter (front_in file) (length (front_in file) - block_size (comment_count (record_in file))) in
    omega (arith, long, after, later, shorter)

-- ---- the file without it

pub without_older_length : (file : List ℕ) → length (without_older file) ≤ length file
without_older_length file = go (has_older file)
  where
    place : ℕ
    place = older_place file

    count : ℕ
    count = length (after_end_mark file)

    go : (has : Bool) → length (if has then take place file ++ drop (place + count) file else file) ≤ length file
    go false = omega arith
    go true =
        let all = length-append (take place file) (drop (place + count) file) in
        let first = length-take place file in
        let last = length-drop (place + count) file in
        omega (arith, all, first, last)

-- its front is that of the file without some bytes
module _ (file : List ℕ) (has : has_record file ≡ true) (place count : ℕ)
    (within : place + count ≤ length (front_in file)) where
  abbrev front : List ℕ
  front = front_in file

  abbrev sauce : List ℕ
  sauce = record_in file

  whole : front ++ sauce ≡ file
  whole = take-append-drop (length file - 128) file

  sauce_long : length sauce ≡ 128
  sauce_long =
      let long : 128 ≤ length file = recorded_long file has in
      length-drop (length file - 128) file ∙ omega (arith, long)

  abbrev new_front : List ℕ
  new_front = take place front ++ drop (place + count) front

  new_whole : take place file ++ drop (place + count) file ≡ new_front ++ sauce
  new_whole =
      ap (λ (v : List ℕ). take place v ++ drop (place + count) v) (sym whole)
      ∙ ap (λ (v : List ℕ). v ++ drop (place + count) (front ++ sauce))
      (take-append-le place front sauce (omega (arith, within)))
      ∙ ap (λ (v : List ℕ). take place front ++ v) (drop-append-le (place + count) front sauce within)
      ∙ sym (append_assoc (take place front) (drop (place + count) front) sauce)

  new_front_is : front_in (take place file ++ drop (place + count) file) ≡ new_front
  new_front_is =
      let long : length (new_front ++ sauce) ≡ length new_front + length sauce = length-append new_front sauce in
      let cut : length (new_front ++ sauce) - 128 ≡ length new_front = omega (arith, long, sauce_long) in
      ap (λ (v : List ℕ). take (length v - 128) v) new_whole
      ∙ ap (λ (n : ℕ). take n (new_front ++ sauce)) cut ∙ take-append_seam new_front sauce

  fewer_feeds : line_feeds new_front ≤ line_feeds front
  fewer_feeds =
      let f : ℕ → ℕ = λ (b : ℕ). if is_line_feed b then 1 else 0 in
      let both = sum_by-append f (take place front) (drop (place + count) front) in
      let last = sum_by-take-drop f front (place + count) in
      let first : line_feeds (take place (take (place + count) front)) ≤ line_feeds (take (place + count) front) =
      sum_by-take-le f (take (place + count) front) place in
      let same : line_feeds (take place (take (place + count) front)) ≡ line_feeds (take place front) =
      ap line_feeds (take-take place (place + count) front (omega arith)) in
      omega (arith, both, last, first, same)

pub without_older_feeds : (file : List ℕ) → line_feeds (front_in (without_older file)) ≤ line_feeds (front_in file)
without_older_feeds file = go (has_record file) (is_older_record (after_end_mark file)) refl refl
  where
    place : ℕ
    place = older_place file

    count : ℕ
    count = length (after_end_mark file)

    go : (has is : Bool) → has_record file ≡ has → is_older_record (after_end_mark file) ≡ is
        → line_feeds (front_in (if has && is then take place file ++ drop (place + count) file else file))
        ≤ line_feeds (front_in file)
    go false is has_is is_is = omega arith
    go true false has_is is_is = omega arith
    go true true has_is is_is =
        let within = older_within file is_is in
        let same = ap line_feeds (new_front_is file has_is place count within) in
        let fewer = fewer_feeds file has_is place count within in
        omega (arith, same, fewer)

-- ---- in a memory of which the first bytes are the file

pub dropped : (memory twice file : List ℕ) (used : ℕ) (times : Times) → used ≤ length memory
    → file ≡ take used memory → Some times ≡ older_gone file → times.first + times.count ≤ length file
    → twice ≡ take times.first memory
    ++ take (used - (times.first + times.count)) (drop (times.first + times.count) memory)
    → twice ≡ without_older file
dropped memory twice file used times within are gone fits moved = go (has_older file) refl
  where
    long : length file ≡ used
    long = ap length are ∙ length-take-le used memory within

    first_is : take times.first memory ≡ take times.first file
    first_is =
        sym (take-take times.first used memory (omega (arith, fits, long)))
        ∙ ap (take times.first) (sym are)

    last_is : take (used - (times.first + times.count)) (drop (times.first + times.count) memory)
        ≡ drop (times.first + times.count) file
    last_is =
        left_behind_content memory used (times.first + times.count) (omega (arith, fits, long)) within
        ∙ ap (drop (times.first + times.count)) (sym are)

    left : twice ≡ take times.first file ++ drop (times.first + times.count) file
    left = moved ∙ ap₂ (λ (v w : List ℕ). v ++ w) first_is last_is

    go : (has : Bool) → has_older file ≡ has → twice ≡ without_older file
    go true has =
        let is : Some times ≡ Some (record { count = length (after_end_mark file); first = older_place file }) =
        rw has at gone in
        let same : times ≡ record { count = length (after_end_mark file); first = older_place file } = cc in
        rw has (rw same at left)
    go false has = let none : ◌≡◌ {A = Option Times} (Some times) None = rw has at gone in absurd (cc)
