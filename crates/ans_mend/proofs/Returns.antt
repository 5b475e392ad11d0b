-- A turn of the loop that closes the gap.
use Rattle.std.proofs.Common.{◌≡◌, ℕ, ◌+◌, ◌≤◌, ◌<◌, Bool, true, false, List, [], ◌∷◌, ◌++◌, length, take}
use Rattle.std.proofs.Common.{drop, refl, sym, ap, ◌∙◌, arith, slice_index_or, append_assoc}
use Rattle.std.specs.Prelude.{if◌then◌else◌, ◌&&◌, not}
use Rattle.std.proofs.lemmas.List.{append-nil, drop_all, drop-drop, drop_more, get_or-drop, get_or-take, length-append}
use Rattle.std.proofs.lemmas.List.{length-drop, length-take-le}
use Rattle.std.proofs.lemmas.List.Sums.{sum_by-cons}
use Rattle.ans_mend.specs.LineEnds.{bare_feeds, byte_returned, is_line_feed, is_return, line_feeds, needs_return}
use Rattle.ans_mend.specs.LineEnds.{with_returns}
use Rattle.ans_mend.proofs.MovedUp.{filled_front, moved, moved_content}

-- ---- what is still to come
pub returns_length : (last : ℕ) (bytes : List ℕ)
    → length (with_returns last bytes) ≡ length bytes + bare_feeds last bytes
returns_length last [] = refl
returns_length last (b ∷ bytes) =
    let more = length-append (byte_returned last b) (with_returns b bytes) in
    let rest = returns_length b bytes in
    let one = byte_length (needs_return last b) in
    omega (arith, more, rest, one)
  where
    byte_length : (needs : Bool) → length (if needs then 0x0D ∷ b ∷ [] else b ∷ []) ≡ 1 + (if needs then 1 else 0)
    byte_length true = refl
    byte_length false = refl

-- no more need one than there are
pub bare_few : (last : ℕ) (bytes : List ℕ) → bare_feeds last bytes ≤ line_feeds bytes
bare_few last [] = omega arith
bare_few last (b ∷ bytes) =
    let feeds = sum_by-cons (λ (v : ℕ). if is_line_feed v then 1 else 0) b bytes in
    let rest = bare_few b bytes in
    let one = fewer (is_line_feed b) (is_return last) in
    omega (arith, feeds, rest, one)
  where
    fewer : (feed returned : Bool) → (if feed && not returned then 1 else 0) ≤ (if feed then 1 else 0)
    fewer true true = omega arith
    fewer true false = omega arith
    fewer false returned = omega arith

module _ (start memory : List ℕ) (gap count index written last : ℕ) (more : index < count)
    (within : gap + count ≤ length start) (room : bare_feeds 0 (take count (drop gap start)) ≤ gap)
    (same_length : length memory ≡ length start)
    (place : written + length (with_returns last (drop index (take count (drop gap start))))
    ≡ length (with_returns 0 (take count (drop gap start))))
    (done : take written memory ++ with_returns last (drop index (take count (drop gap start)))
    ≡ with_returns 0 (take count (drop gap start)))
    (left : drop (gap + index) memory ≡ drop (gap + index) start) where
  abbrev content : List ℕ
  content = take count (drop gap start)

  abbrev byte : ℕ
  byte = slice_index_or memory (gap + index) 0

  abbrev rest : List ℕ
  rest = drop (index + 1) content

  content_length : length content ≡ count
  content_length = length-take-le count (drop gap start) (rw (length-drop gap start) (omega (arith, within)))

  same_byte : byte ≡ slice_index_or content index 0
  same_byte =
      ap (λ (v : ℕ). slice_index_or memory v 0) (omega arith) ∙ sym (get_or-drop (gap + index) memory 0 0)
      ∙ ap (λ (v : List ℕ). slice_index_or v 0 0) left ∙ get_or-drop (gap + index) start 0 0
      ∙ ap (λ (v : ℕ). slice_index_or start v 0) (omega arith) ∙ sym (get_or-drop gap start index 0)
      ∙ sym (get_or-take count (drop gap start) index 0 more)

  comes_next : drop index content ≡ byte ∷ rest
  comes_next =
      drop_more content index 0 (omega (arith, more, content_length))
      ∙ ap (λ (b : ℕ). b ∷ rest) (sym same_byte)

  -- where the byte is written there is room, and what is still to come is not reached
  reached : written + length (byte_returned last byte) ≤ gap + (index + 1)
  reached =
      let all = place in
      let next = ap (λ (v : List ℕ). length (with_returns last v)) comes_next
      ∙ length-append (byte_returned last byte) (with_returns byte rest) in
      let whole = returns_length 0 content in
      let behind = returns_length byte rest in
      let rest_long = length-drop (index + 1) content in
      omega (arith, all, next, whole, behind, rest_long, content_length, room, more)

  pub has_room : written + length (byte_returned last byte) ≤ length memory
  has_room = let r = reached in omega (arith, r, within, same_length, more)

  module _ (result : ℕ) (new : List ℕ) (counted : result ≡ written + length (byte_returned last byte))
      (new_length : length new ≡ length memory)
      (wrote : take result new ≡ take written memory ++ byte_returned last byte)
      (behind : (at : ℕ) → result ≤ at → drop at new ≡ drop at memory) where
    pub next_place : result + length (with_returns byte rest) ≡ length (with_returns 0 content)
    next_place =
        let all = place in
        let next = ap (λ (v : List ℕ). length (with_returns last v)) comes_next
        ∙ length-append (byte_returned last byte) (with_returns byte rest) in
        omega (arith, all, next, counted)

    pub next_done : take result new ++ with_returns byte rest ≡ with_returns 0 content
    next_done =
        ap (λ (v : List ℕ). v ++ with_returns byte rest) wrote
        ∙ append_assoc (take written memory) (byte_returned last byte) (with_returns byte rest)
        ∙ ap (λ (v : List ℕ). take written memory ++ with_returns last v) (sym comes_next) ∙ done

    pub next_left : drop (gap + (index + 1)) new ≡ drop (gap + (index + 1)) start
    next_left =
        let r = reached in
        behind (gap + (index + 1)) (omega (arith, counted, r)) ∙ one_less memory ∙ ap (drop 1) left
        ∙ sym (one_less start)
      where
        one_less : (xs : List ℕ) → drop (gap + (index + 1)) xs ≡ drop 1 (drop (gap + index) xs)
        one_less xs = ap (λ (v : ℕ). drop v xs) (omega arith) ∙ sym (drop-drop 1 (gap + index) xs)

-- all is written
pub all_written : (start memory : List ℕ) (gap count written last : ℕ) → gap + count ≤ length start
    → written + length (with_returns last (drop count (take count (drop gap start))))
    ≡ length (with_returns 0 (take count (drop gap start)))
    → take written memory ++ with_returns last (drop count (take count (drop gap start)))
    ≡ with_returns 0 (take count (drop gap start))
    → take (count + bare_feeds 0 (take count (drop gap start))) memory ≡ with_returns 0 (take count (drop gap start))
all_written start memory gap count written last within place done =
    let content : List ℕ = take count (drop gap start) in
    let content_long : length content ≡ count =
    length-take-le count (drop gap start) (rw (length-drop gap start) (omega (arith, within))) in
    let none : drop count content ≡ [] = drop_all count content (omega (arith, content_long)) in
    let nothing : with_returns last (drop count content) ≡ [] = ap (with_returns last) none in
    let none_long = ap length nothing in
    let whole = returns_length 0 content in
    ap (λ (n : ℕ). take n memory) (omega (arith, place, none_long, whole, content_long))
    ∙ sym (append-nil (take written memory)) ∙ ap (λ (v : List ℕ). take written memory ++ v) (sym nothing) ∙ done

-- ---- the whole

module _ (memory : List ℕ) (used count gap : ℕ) (room : used + gap ≤ length memory) (within : count ≤ used)
    (feeds : gap ≡ bare_feeds 0 (take count memory)) where
  abbrev there : List ℕ
  there = moved memory used count gap room within

  same : take count (drop gap there) ≡ take count memory
  same = moved_content memory used count gap room within

  pub moved_feeds : bare_feeds 0 (take count (drop gap there)) ≤ gap
  moved_feeds = let found = ap (bare_feeds 0) same in omega (arith, feeds, found)

  pub returned_front : (new : List ℕ)
      → take (count + bare_feeds 0 (take count (drop gap there))) new ≡ with_returns 0 (take count (drop gap there))
      → drop (gap + count) new ≡ drop (gap + count) there
      → take (used + gap) new ≡ with_returns 0 (take count memory) ++ drop count (take used memory)
  returned_front new written left =
      let found = ap (bare_feeds 0) same in
      let first : gap + count ≡ count + bare_feeds 0 (take count (drop gap there)) = omega (arith, feeds, found) in
      filled_front memory used count gap room within new (with_returns 0 (take count memory))
      (ap (λ (v : ℕ). take v new) first ∙ written ∙ ap (with_returns 0) same) left
