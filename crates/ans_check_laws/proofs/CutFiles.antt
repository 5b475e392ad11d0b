-- A file of which the last 128 bytes are taken for a record, whatever they are, and what its changes leave of it.
use Rattle.std.proofs.Common.{◌≡◌, inl, inr, ℕ, suc, ◌+◌, ◌-◌, ◌≤◌, ◌<◌, Bool, true, false, List, [], ◌∷◌, ◌++◌}
use Rattle.std.proofs.Common.{length, take, drop, refl, sym, ap, ap₂, ◌∙◌, arith, append_assoc, append-nil, true≢false}
use Rattle.std.specs.Prelude.{codes, if◌then◌else◌, not, ◌&&◌, bytes_eq}
use Rattle.std.specs.List.{list_any, position_or_len}
use Rattle.std.proofs.lemmas.Bool.{and_parts, cases_lt}
use Rattle.std.proofs.lemmas.List.{length-append, length-drop, length-take-le, take-append-drop, take-append-le}
use Rattle.std.proofs.lemmas.List.{drop-append-le, drop-take, take-take}
use Rattle.std.proofs.lemmas.Slice.{drop-append-drop}
use Rattle.std.proofs.Math.Seq.{take-append-add}
use Rattle.ans_model.specs.Bytes.{end_mark}
use Rattle.ans_model.specs.File.Layout.{after_content, content, is_end_mark}
use Rattle.ans_model.specs.File.Record.{comment_count, number}
use Rattle.ans_model.specs.File.Refusals.{block_size, has_record}
use Rattle.ans_sauce.specs.Found.{body_in, front_in, record_in}
use Rattle.ans_sauce.specs.Contents.{content_in, with_content}
use Rattle.ans_sauce.proofs.ContentLemmas.{content_after, content_append, content_unmarked}
use Rattle.ans_sauce.proofs.Overwriting.{overwritten_length}
use Rattle.ans_sauce.proofs.RecordLemmas.{body_before, content_before, front_shorter, has_by, length_front}
use Rattle.ans_sauce.proofs.RecordLemmas.{record_behind, record_length, recorded_id, recorded_long}
use Rattle.ans_mend.specs.Drafts.{with_byte}
use Rattle.ans_mend.specs.EndMark.{lacks_end_mark, with_end_mark}
use Rattle.ans_sauce.specs.Fields.{two_bytes, with_lines, with_record}
use Rattle.ans_mend.specs.LineEnds.{wants_returns, with_line_ends, with_returns}
use Rattle.ans_check_laws.proofs.MarkedContents.{content_marked, unmarked}
use Rattle.ans_check_laws.proofs.ReturnsPut.{put_unmarked, put_wants_none}

-- a front of what is written over behind it
pub front_of_front : (k n : ℕ) (r behind : List ℕ) → k ≤ n → n ≤ length r → take k (take n r ++ behind) ≡ take k r
front_of_front k n r behind few within =
    let long : length (take n r) ≡ n = length-take-le n r within in
    take-append-le k (take n r) behind (omega (arith, few, long)) ∙ take-take k n r few

-- ---- other lines
module _ (n : ℕ) (file : List ℕ) where
  abbrev r : List ℕ
  r = record_in file

  abbrev with_them : List ℕ
  with_them = with_record (with_lines n r) file

  lines_length : length (with_lines n r) ≡ length (take 98 r) + (2 + (length r - 100))
  lines_length =
      length-append (take 98 r) (two_bytes n ++ drop 100 r)
      ∙ ap (λ (v : ℕ). length (take 98 r) + v) (length-append (two_bytes n) (drop 100 r)
      ∙ ap (λ (v : ℕ). 2 + v) (length-drop 100 r))

  -- the file was long before, if it is now
  was_long : 128 ≤ length with_them → 128 ≤ length file
  was_long long = elim (cases_lt (length file) 128) [
    | inl short ↦
        let all : length with_them ≡ length (front_in file) + length (with_lines n r) =
        length-append (front_in file) (with_lines n r) in
        let front = length_front file (length file - 128) in
        let size : length r ≡ length file - (length file - 128) = length-drop (length file - 128) file in
        let first = length_front r 98 in
        absurd (too_short (length (front_in file)) (length r) (length (take 98 r)) (length file) (length with_them)
        short (omega (arith, size, short)) (omega (arith, front, short)) first
        (omega (arith, all, lines_length)) long)
    | inr is ↦ is
  ]
    where
      too_short : (f r a s d : ℕ) → s < 128 → r ≡ s → f ≡ 0 → a + (r - 98) ≡ r → d ≡ f + (a + (2 + (r - 100)))
          → 128 ≤ d → ⊥
      too_short f r a s d short same none first all long = omega (arith, short, same, none, first, all, long)

  module _ (long : 128 ≤ length file) where
    size : length r ≡ 128
    size = record_length file long

    lines_size : length (with_lines n r) ≡ 128
    lines_size = overwritten_length 98 (two_bytes n) r (omega (arith, size)) ∙ size

    lines_id : take 5 (record_in with_them) ≡ take 5 r
    lines_id =
        ap (take 5) (record_behind (front_in file) (with_lines n r) lines_size)
        ∙ front_of_front 5 98 r (two_bytes n ++ drop 100 r) (omega arith) (omega (arith, size))

    lines_comments : comment_count (with_lines n r) ≡ comment_count r
    lines_comments =
        let first : length (take 98 r) ≡ 98 = length-take-le 98 r (omega (arith, size)) in
        let before : List ℕ = take 98 r ++ two_bytes n in
        let before_size : length before ≡ 100 =
        length-append (take 98 r) (two_bytes n) ∙ ap (λ (v : ℕ). v + 2) first in
        let behind : drop 104 (with_lines n r) ≡ drop 104 r =
        ap (drop 104) (sym (append_assoc (take 98 r) (two_bytes n) (drop 100 r)))
        ∙ drop-append-drop 100 r before 104 (omega arith) before_size in
        ap (λ (v : List ℕ). number (take 1 v)) behind

    lines_content : content_in with_them ≡ content_in file
    lines_content =
        ap content (body_before (front_in file) (with_lines n r) lines_size
        ∙ ap (λ (v : ℕ). take (length (front_in file) - block_size v) (front_in file)) lines_comments)

  pub lines_had : has_record with_them ≡ true → has_record file ≡ true
  lines_had has =
      let long : 128 ≤ length file = was_long (recorded_long with_them has) in
      has_by file long
      (ap (λ (v : List ℕ). bytes_eq v (codes "SAUCE")) (sym (lines_id long)) ∙ recorded_id with_them has)

  pub lines_kept : has_record file ≡ true → content_in with_them ≡ content_in file
  lines_kept has = lines_content (recorded_long file has)

-- ---- an end mark
module _ (file : List ℕ) where
  abbrev place : ℕ
  place = length (body_in file)

  abbrev marked_if : Bool → List ℕ
  marked_if lacks = if lacks then with_byte place end_mark file else file

  pub mark_had : has_record (with_end_mark file) ≡ true → has_record file ≡ true
  mark_had has = go (lacks_end_mark file) refl has
    where
      go : (lacks : Bool) → lacks_end_mark file ≡ lacks → has_record (marked_if lacks) ≡ true → has_record file ≡ true
      go true is has = (and_parts (has_record file) (not (list_any is_end_mark (body_in file))) is).0
      go false is has = has

  module _ (has : has_record file ≡ true) where
    abbrev front : List ℕ
    front = front_in file

    abbrev block : ℕ
    block = block_size (comment_count (record_in file))

    abbrev marked_front : List ℕ
    marked_front = take place front ++ end_mark ∷ drop place front

    place_is : place ≡ length front - block
    place_is = length-take-le (length front - block) front (omega arith)

    whole : front ++ record_in file ≡ file
    whole = take-append-drop (length file - 128) file

    marked_whole : with_byte place end_mark file ≡ marked_front ++ record_in file
    marked_whole =
        ap (with_byte place end_mark) (sym whole)
        ∙ ap₂ (λ (v w : List ℕ). v ++ end_mark ∷ w)
        (take-append-le place front (record_in file) (omega (arith, place_is)))
        (drop-append-le place front (record_in file) (omega (arith, place_is)))
        ∙ sym (append_assoc (take place front) (end_mark ∷ drop place front) (record_in file))

    same_body : body_in file ≡ take place front
    same_body = ap (λ (v : ℕ). take v front) (sym place_is)

    front_size : length (take place front) ≡ place
    front_size = length-take-le place front (omega (arith, place_is))

    marked_size : length marked_front ≡ length front + 1
    marked_size =
        let cut = length_front front place in
        let behind : length (drop place front) ≡ length front - place = length-drop place front in
        let all : length marked_front ≡ length (take place front) + suc (length (drop place front)) =
        length-append (take place front) (end_mark ∷ drop place front) in
        omega (arith, cut, behind, all)

    marked_body : list_any is_end_mark (body_in file) ≡ false
        → content (take (length marked_front - block) marked_front) ≡ content_in file
    marked_body none = elim (cases_lt (length front) block) [
      | inl over ↦
          let at : length marked_front - block ≡ 0 = omega (arith, over, marked_size) in
          let none_before : place ≡ 0 = omega (arith, over, place_is) in
          ap (λ (v : ℕ). content (take v marked_front)) at
          ∙ sym (ap content (same_body ∙ ap (λ (v : ℕ). take v front) none_before))
      | inr within ↦
          let at : length marked_front - block ≡ length (take place front) + 1 =
          omega (arith, within, marked_size, place_is, front_size) in
          ap (λ (v : ℕ). content (take v marked_front)) at
          ∙ ap content (take-append-add (take place front) (end_mark ∷ drop place front) 1
          ∙ ap (λ (v : List ℕ). v ++ end_mark ∷ []) (sym same_body))
          ∙ content_marked (body_in file) none
    ]

    pub mark_kept : content_in (with_end_mark file) ≡ content_in file
    mark_kept = go (lacks_end_mark file) refl
      where
        go : (lacks : Bool) → lacks_end_mark file ≡ lacks → content_in (marked_if lacks) ≡ content_in file
        go true is =
            ap content_in marked_whole
            ∙ ap content (body_before marked_front (record_in file) (record_length file (recorded_long file has)))
            ∙ marked_body (unmarked (has_record file) (list_any is_end_mark (body_in file)) is)
        go false is = refl

    pub mark_record : record_in (with_end_mark file) ≡ record_in file
    mark_record = go (lacks_end_mark file)
      where
        go : (lacks : Bool) → record_in (marked_if lacks) ≡ record_in file
        go true =
            ap record_in marked_whole
            ∙ record_behind marked_front (record_in file) (record_length file (recorded_long file has))
        go false = refl

-- ---- returns

module _ (file : List ℕ) (has : has_record file ≡ true) where
  abbrev c : List ℕ
  c = content_in file

  abbrev before : List ℕ
  before = front_in file

  abbrev comments : ℕ
  comments = block_size (comment_count (record_in file))

  -- other bytes in the place of a content that is there
  module _ (new : List ℕ) (unmarked : list_any is_end_mark new ≡ false) (some : 1 ≤ length c) where
    abbrev new_front : List ℕ
    new_front = new ++ drop (length c) before

    new_whole : with_content new file ≡ new_front ++ record_in file
    new_whole =
        ap (λ (v : List ℕ). new ++ drop (length c) v) (sym (take-append-drop (length file - 128) file))
        ∙ ap (λ (v : List ℕ). new ++ v) (drop-append-le (length c) before (record_in file) (content_before file))
        ∙ sym (append_assoc new (drop (length c) before) (record_in file))

    new_size : length new_front ≡ length new + (length before - length c)
    new_size =
        length-append new (drop (length c) before)
        ∙ ap (λ (v : ℕ). length new + v) (length-drop (length c) before)

    body_size : length (body_in file) ≡ length before - comments
    body_size = length-take-le (length before - comments) before (omega arith)

    new_body : body_in (with_content new file)
        ≡ new ++ take (length before - length c - comments) (drop (length c) before)
    new_body =
        let size : length (record_in file) ≡ 128 = record_length file (recorded_long file has) in
        let few = front_shorter (body_in file) (position_or_len is_end_mark (body_in file)) in
        let body = body_size in
        let at : length new_front - comments ≡ length new + (length before - length c - comments) =
        omega (arith, new_size, few, body, some) in
        ap body_in new_whole ∙ body_before new_front (record_in file) size
        ∙ ap (λ (v : ℕ). take v new_front) at
        ∙ take-append-add new (drop (length c) before) (length before - length c - comments)

    -- what stands behind them is what stood behind the content
    same_rest : take (length before - length c - comments) (drop (length c) before) ≡ after_content (body_in file)
    same_rest =
        let few = front_shorter (body_in file) (position_or_len is_end_mark (body_in file)) in
        let body = body_size in
        let at : length c + (length before - length c - comments) ≡ length before - comments =
        omega (arith, few, body, some) in
        sym (drop-take (length c) (length before - length c - comments) before)
        ∙ ap (λ (v : ℕ). drop (length c) (take v before)) at

    some_put : content_in (with_content new file) ≡ new
    some_put =
        let rest : List ℕ = take (length before - length c - comments) (drop (length c) before) in
        ap content new_body ∙ content_append new rest unmarked
        ∙ ap (λ (v : List ℕ). new ++ v) (ap content same_rest ∙ content_after (body_in file)) ∙ append-nil new

  -- bytes in the place of a content are the content then
  pub content_put : (new : List ℕ) → list_any is_end_mark new ≡ false → (c ≡ [] → new ≡ [])
      → content_in (with_content new file) ≡ new
  content_put new unmarked none = elim (cases_lt (length c) 1) [
    | inl short ↦
        let empty : c ≡ [] = is_empty c short in
        let same : with_content new file ≡ file =
        ap₂ (λ (v w : List ℕ). v ++ drop (length w) file) (none empty) empty in
        ap content_in same ∙ empty ∙ sym (none empty)
    | inr some ↦ some_put new unmarked some
  ]
    where
      is_empty : (bytes : List ℕ) → length bytes < 1 → bytes ≡ []
      is_empty [] few = refl
      is_empty (b ∷ bytes) few = absurd (let no : ⊥ = omega (arith, few) in no)

  -- and the record stays, whatever is put
  pub record_stays : (new : List ℕ) → record_in (with_content new file) ≡ record_in file
  record_stays new =
      let front : List ℕ = new ++ drop (length c) before in
      let whole : with_content new file ≡ front ++ record_in file =
      ap (λ (v : List ℕ). new ++ drop (length c) v) (sym (take-append-drop (length file - 128) file))
      ∙ ap (λ (v : List ℕ). new ++ v) (drop-append-le (length c) before (record_in file) (content_before file))
      ∙ sym (append_assoc new (drop (length c) before) (record_in file)) in
      ap record_in whole ∙ record_behind front (record_in file) (record_length file (recorded_long file has))

  module _ (mixed : Bool) where
    put_wanted : wants_returns mixed (content_in (with_content (with_returns 0 c) file)) ≡ false
    put_wanted =
        ap (wants_returns mixed) (content_put (with_returns 0 c) (put_unmarked 0 c (content_unmarked (body_in file)))
        (λ empty. ap (with_returns 0) empty))
        ∙ put_wants_none mixed c

    -- where returns are put, none is wanted any more
    pub returned_wants_none : wants_returns mixed (content_in (with_line_ends mixed file)) ≡ false
    returned_wants_none = go (has_record file) (wants_returns mixed c) has refl
      where
        go : (recorded wanted : Bool) → recorded ≡ true → wants_returns mixed c ≡ wanted
            → wants_returns mixed
            (content_in (if recorded && wanted then with_content (with_returns 0 c) file else file)) ≡ false
        go true true is wants = put_wanted
        go true false is none = none
        go false wanted is e = absurd (true≢false (sym is))
