-- How much longer a file gets where it is mended, by its line feeds.
use Rattle.std.proofs.Common.{◌≡◌, ℕ, ◌+◌, ◌-◌, ◌≤◌, Bool, true, false, List, [], ◌∷◌, ◌++◌, length, take, drop}
use Rattle.std.proofs.Common.{inl, inr, refl, sym, ap, ◌∙◌, arith, subst, append_assoc, Option, Some, None}
use Rattle.std.specs.Prelude.{if◌then◌else◌, ◌&&◌}
use Rattle.std.specs.List.{position_or_len}
use Rattle.std.specs.Option.{option_map_or}
use Rattle.std.proofs.lemmas.List.{length-append, length-drop}
use Rattle.std.proofs.lemmas.List.Sums.{sum_by-append, sum_by-cons, sum_by-take-le}
use Rattle.ans_model.specs.Bytes.{end_mark}
use Rattle.ans_model.specs.File.Layout.{content, is_end_mark}
use Rattle.ans_model.specs.File.Record.{comment_count}
use Rattle.ans_model.specs.File.Refusals.{block_size, has_record}
use Rattle.ans_sauce.specs.Found.{body_in, front_in, record_in}
use Rattle.ans_sauce.specs.Contents.{content_in, with_content}
use Rattle.ans_sauce.proofs.RecordLemmas.{front_before, front_shorter, recorded_long}
use Rattle.ans_mend.specs.LineEnds.{is_line_feed, line_feeds, wants_returns}
use Rattle.ans_mend.proofs.Returns.{bare_few, returns_length}
use Rattle.ans_mend.specs.LineEnds.{with_line_ends}
use Rattle.ans_mend.specs.LineEnds.{with_returns}
use Rattle.ans_mend.specs.NewRecord.{new_record, takes_record, with_new_record}
use Rattle.ans_mend.specs.Tail.{IsTailCut}
use Rattle.ans_model.specs.declared.mends.Mends.{Mends}
use Rattle.ans_mend.specs.Mending.{asked_for, record_added, recorded, repaired, widened}
use Rattle.ans_mend.specs.OlderRecord.{without_older}
use Rattle.ans_mend.proofs.OlderOut.{without_older_feeds, without_older_length}
use Rattle.ans_mend.specs.Recounted.{comments_in, recounted, with_comments}
use Rattle.ans_mend.specs.Columns.{with_columns, with_width}
use Rattle.ans_sauce.specs.Fields.{two_bytes, with_record}
use Rattle.ans_sauce.proofs.Overwriting.{overwritten_length, recorded_length as same_length}
use Rattle.ans_mend.specs.MendingRoom.{most_returns}

-- ---- the line feeds of a front, and how long it is

front_feeds : (n : ℕ) (bytes : List ℕ) → line_feeds (take n bytes) ≤ line_feeds bytes
front_feeds n bytes = sum_by-take-le (λ (b : ℕ). if is_line_feed b then 1 else 0) bytes n

pub content_short : (bytes : List ℕ) → length (content bytes) ≤ length bytes
content_short bytes = front_shorter bytes (position_or_len is_end_mark bytes)

content_feeds : (bytes : List ℕ) → line_feeds (content bytes) ≤ line_feeds bytes
content_feeds bytes = front_feeds (position_or_len is_end_mark bytes) bytes

pub content_in_feeds : (file : List ℕ) → line_feeds (content_in file) ≤ line_feeds (front_in file)
content_in_feeds file =
    let inner = content_feeds (body_in file) in
    let outer = front_feeds (length (front_in file) - block_size (comment_count (record_in file))) (front_in file) in
    omega (arith, inner, outer)

content_in_short : (file : List ℕ) → length (content_in file) ≤ length file
content_in_short file =
    let inner = content_short (body_in file) in
    let body = front_shorter (front_in file) (length (front_in file) - block_size (comment_count (record_in file))) in
    let front = front_shorter file (length file - 128) in
    omega (arith, inner, body, front)

-- ---- returns

feeds_few : (bytes : List ℕ) → line_feeds bytes ≤ length bytes
feeds_few [] = omega arith
feeds_few (b ∷ bytes) =
    let feeds = sum_by-cons (λ (v : ℕ). if is_line_feed v then 1 else 0) b bytes in
    let rest = feeds_few bytes in
    let one = at_most_one (is_line_feed b) in
    omega (arith, feeds, rest, one)
  where
    at_most_one : (feed : Bool) → (if feed then 1 else 0) ≤ 1
    at_most_one true = omega arith
    at_most_one false = omega arith

-- one for each byte, at most
pub returns_few : (mends : Mends) (bytes : List ℕ) → most_returns mends bytes ≤ length bytes
returns_few mends bytes = go mends.crlf
  where
    go : (asked : Bool) → (if asked then line_feeds bytes else 0) ≤ length bytes
    go true = feeds_few bytes
    go false = omega arith

pub line_ends_length : (mixed : Bool) (file : List ℕ)
    → length (with_line_ends mixed file) ≤ length file + line_feeds (front_in file)
line_ends_length mixed file = go (has_record file && wants_returns mixed (content_in file))
  where
    go : (wants : Bool) → length (if wants then with_content (with_returns 0 (content_in file)) file else file)
        ≤ length file + line_feeds (front_in file)
    go false = omega arith
    go true =
        let all = length-append (with_returns 0 (content_in file)) (drop (length (content_in file)) file) in
        let behind = length-drop (length (content_in file)) file in
        let grown = returns_length 0 (content_in file) in
        let bare = bare_few 0 (content_in file) in
        let few = content_in_feeds file in
        let short = content_in_short file in
        omega (arith, all, behind, grown, bare, few, short)

new_record_length : (width : ℕ) → length (new_record width) ≡ 128
new_record_length width = refl

module _ (width : ℕ) (cut : List ℕ) where
  -- the content and its end mark
  abbrev marked : List ℕ
  marked = content cut ++ end_mark ∷ []

  with_record_behind : content cut ++ end_mark ∷ new_record width ≡ marked ++ new_record width
  with_record_behind = sym (append_assoc (content cut) (end_mark ∷ []) (new_record width))

  marked_feeds : line_feeds marked ≤ line_feeds cut
  marked_feeds =
      let sum = sum_by-append (λ (b : ℕ). if is_line_feed b then 1 else 0) (content cut) (end_mark ∷ []) in
      let few = content_feeds cut in
      omega (arith, sum, few)

  pub new_feeds : line_feeds (front_in (with_new_record width cut)) ≤ line_feeds cut
  new_feeds = go (takes_record cut)
    where
      go : (takes : Bool)
          → line_feeds (front_in (if takes then content cut ++ end_mark ∷ new_record width else cut)) ≤ line_feeds cut
      go false = front_feeds (length cut - 128) cut
      go true =
          let front : front_in (content cut ++ end_mark ∷ new_record width) ≡ marked =
          ap front_in with_record_behind ∙ front_before marked (new_record width) (new_record_length width) in
          let same = ap line_feeds front in
          let few = marked_feeds in
          omega (arith, same, few)

  pub new_length : length (with_new_record width cut) ≤ length cut + 129
  new_length = go (takes_record cut)
    where
      go : (takes : Bool)
          → length (if takes then content cut ++ end_mark ∷ new_record width else cut) ≤ length cut + 129
      go false = omega arith
      go true =
          let all = length-append (content cut) (end_mark ∷ new_record width) in
          let long = new_record_length width in
          let short = content_short cut in
          omega (arith, all, long, short)

added_length : (mends : Mends) (cut : List ℕ) → length (record_added mends cut) ≤ length cut + 129
added_length mends cut = go mends.add_record
  where
    go : (width : Option ℕ) → length (option_map_or (λ w. with_new_record w cut) width cut) ≤ length cut + 129
    go None = omega arith
    go (Some width) = new_length width cut

added_feeds : (mends : Mends) (cut : List ℕ) → line_feeds (front_in (record_added mends cut)) ≤ line_feeds cut
added_feeds mends cut = go mends.add_record
  where
    go : (width : Option ℕ) → line_feeds (front_in (option_map_or (λ w. with_new_record w cut) width cut))
        ≤ line_feeds cut
    go None = front_feeds (length cut - 128) cut
    go (Some width) = new_feeds width cut

-- another width in its record leaves a file as long, and what comes before the record as it is
width_record_length : (n : ℕ) (file : List ℕ) → 128 ≤ length file → length (with_width n (record_in file)) ≡ 128
width_record_length n file long =
    let record_long : length (record_in file) ≡ 128 = length-drop (length file - 128) file ∙ omega (arith, long) in
    overwritten_length 96 (two_bytes n) (record_in file) (omega (arith, record_long)) ∙ record_long

module _ (file : List ℕ) where
  pub columns_length : (n : ℕ) → length (with_columns n file) ≡ length file
  columns_length n = go (has_record file) refl
    where
      go : (has : Bool) → has_record file ≡ has
          → length (if has then with_record (with_width n (record_in file)) file else file) ≡ length file
      go false is = refl
      go true is = same_length 96 (two_bytes n) file (recorded_long file is) (omega arith)

  columns_front : (n : ℕ) → front_in (with_columns n file) ≡ front_in file
  columns_front n = go (has_record file) refl
    where
      go : (has : Bool) → has_record file ≡ has
          → front_in (if has then with_record (with_width n (record_in file)) file else file) ≡ front_in file
      go false is = refl
      go true is =
          front_before (front_in file) (with_width n (record_in file))
          (width_record_length n file (recorded_long file is))

  widened_length : (mends : Mends) → length (widened mends file) ≡ length file
  widened_length mends = go mends.columns
    where
      go : (width : Option ℕ) → length (option_map_or (λ w. with_columns w file) width file) ≡ length file
      go None = refl
      go (Some width) = columns_length width

  widened_front : (mends : Mends) → front_in (widened mends file) ≡ front_in file
  widened_front mends = go mends.columns
    where
      go : (width : Option ℕ) → front_in (option_map_or (λ w. with_columns w file) width file) ≡ front_in file
      go None = refl
      go (Some width) = columns_front width

-- so does another number of comments
comments_record_length : (n : ℕ) (file : List ℕ) → 128 ≤ length file
    → length (with_comments n (record_in file)) ≡ 128
comments_record_length n file long =
    let record_long : length (record_in file) ≡ 128 = length-drop (length file - 128) file ∙ omega (arith, long) in
    overwritten_length 104 (n ∷ []) (record_in file) (omega (arith, record_long)) ∙ record_long

module _ (file : List ℕ) where
  recounted_length : length (recounted file) ≡ length file
  recounted_length = go (has_record file) refl
    where
      go : (has : Bool) → has_record file ≡ has
          → length (if has then with_record (with_comments (comments_in file) (record_in file)) file else file)
          ≡ length file
      go false is = refl
      go true is = same_length 104 (comments_in file ∷ []) file (recorded_long file is) (omega arith)

  recounted_front : front_in (recounted file) ≡ front_in file
  recounted_front = go (has_record file) refl
    where
      go : (has : Bool) → has_record file ≡ has
          → front_in (if has then with_record (with_comments (comments_in file) (record_in file)) file else file)
          ≡ front_in file
      go false is = refl
      go true is =
          front_before (front_in file) (with_comments (comments_in file) (record_in file))
          (comments_record_length (comments_in file) file (recorded_long file is))

  repaired_length : (mends : Mends) → length (repaired mends file) ≤ length file
  repaired_length mends = go mends.repair_record
    where
      go : (asked : Bool) → length (if asked then without_older (recounted file) else file) ≤ length file
      go false = omega arith
      go true =
          let less = without_older_length (recounted file) in
          let same = recounted_length in omega (arith, less, same)

  repaired_feeds : (mends : Mends) → line_feeds (front_in (repaired mends file)) ≤ line_feeds (front_in file)
  repaired_feeds mends = go mends.repair_record
    where
      go : (asked : Bool) → line_feeds (front_in (if asked then without_older (recounted file) else file))
          ≤ line_feeds (front_in file)
      go false = omega arith
      go true =
          let less = without_older_feeds (recounted file) in
          let same = ap line_feeds recounted_front in omega (arith, less, same)

pub recorded_length : (mends : Mends) (cut : List ℕ) → length (recorded mends cut) ≤ length cut + 129
recorded_length mends cut =
    let wide : List ℕ = widened mends (record_added mends cut) in
    let last = repaired_length wide mends in
    let same = widened_length (record_added mends cut) mends in
    let added = added_length mends cut in omega (arith, last, same, added)

recorded_feeds : (mends : Mends) (cut : List ℕ) → line_feeds (front_in (recorded mends cut)) ≤ line_feeds cut
recorded_feeds mends cut =
    let wide : List ℕ = widened mends (record_added mends cut) in
    let last = repaired_feeds wide mends in
    let same = ap line_feeds (widened_front (record_added mends cut) mends) in
    let added = added_feeds mends cut in omega (arith, last, same, added)

-- ---- in all

cut_feeds : (file cut : List ℕ) → IsTailCut file cut → line_feeds cut ≤ line_feeds file
cut_feeds file cut (inl (place, tail, is)) =
    subst (λ (v : List ℕ). line_feeds v ≤ line_feeds file) (sym is) (front_feeds (place + 128) file)
cut_feeds file cut (inr (none, is)) = subst (λ (v : List ℕ). line_feeds v ≤ line_feeds file) (sym is) (omega arith)

-- no more returns are put than the file has line feeds
pub few_returns : (mends : Mends) (file cut : List ℕ) → IsTailCut file cut
    → most_returns (asked_for mends cut) (front_in (recorded mends cut)) ≤ most_returns mends file
few_returns mends file cut is = go mends.crlf
  where
    go : (asked : Bool) → (if asked then line_feeds (front_in (recorded mends cut)) else 0)
        ≤ (if asked then line_feeds file else 0)
    go false = omega arith
    go true =
        let put = recorded_feeds mends cut in
        let left = cut_feeds file cut is in
        omega (arith, put, left)
