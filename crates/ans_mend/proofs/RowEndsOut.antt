-- Line ends that are taken out, one after the other.
use Rattle.std.proofs.Common.{◌≡◌, ℕ, ◌+◌, ◌-◌, ◌≤◌, ◌<◌, List, [], ◌∷◌, ◌++◌, length, take, drop, ap, ap₂, sym, ◌∙◌}
use Rattle.std.proofs.Common.{arith, append_assoc, append-nil, Option, None, Some, subst, true}
use Rattle.std.proofs.lemmas.List.{drop-drop, drop-take, length-drop, length-take-le, nil_from_length, take-take}
use Rattle.std.specs.List.{flat_map}
use Rattle.ans_pens.specs.Counted.{count_of, counted}
use Rattle.ans_hints.specs.FullRowEnds.{AreEndsOver, IsFirstEnd, StandsBetween, bytes_by, bytes_of, without}
use Rattle.ans_hints.specs.declared.full_row_ends.FullRowEnd.{FullRowEnd}
use Rattle.ans_hints.specs.declared.row_play.RowPlay.{RowPlay}
use Rattle.ans_pens.specs.declared.times.Times.{Times}

-- nothing is left behind as many as there are
all_gone : (xs : List ℕ) (n : ℕ) → length xs ≤ n → drop n xs ≡ []
all_gone xs n short = nil_from_length (drop n xs) (length-drop n xs ∙ omega (arith, short))

-- what is moved where a line end has a return
pub pair_out : (xs : List ℕ) (from at line_feed : ℕ) → from ≤ at → at < line_feed → line_feed < length xs
    → take (at - from) (drop from xs) ++ take (line_feed - (at + 1)) (drop (at + 1) xs)
    ≡ without from (at ∷ line_feed ∷ []) (take (line_feed + 1 - from) (drop from xs))
pair_out xs from at line_feed low lt within =
    let ys : List ℕ = take (line_feed + 1 - from) (drop from xs) in
    let front : take (at - from) ys ≡ take (at - from) (drop from xs) =
    take-take (at - from) (line_feed + 1 - from) (drop from xs) (omega (arith, low, lt)) in
    let behind : drop (at + 1 - from) ys ≡ take (line_feed - at) (drop (at + 1) xs) =
    ap (λ (n : ℕ). drop (at + 1 - from) (take n (drop from xs))) (omega (arith, low, lt))
    ∙ drop-take (at + 1 - from) (line_feed - at) (drop from xs)
    ∙ ap (take (line_feed - at)) (drop-drop (at + 1 - from) from xs ∙ ap (λ (n : ℕ). drop n xs) (omega (arith, low))) in
    let middle : take (line_feed - (at + 1)) (drop (at + 1 - from) ys)
    ≡ take (line_feed - (at + 1)) (drop (at + 1) xs) =
    ap (take (line_feed - (at + 1))) behind
    ∙ take-take (line_feed - (at + 1)) (line_feed - at) (drop (at + 1) xs) (omega arith) in
    let rest : drop (line_feed + 1 - (at + 1)) (drop (at + 1 - from) ys) ≡ [] =
    all_gone (drop (at + 1 - from) ys) (line_feed + 1 - (at + 1))
    (rw (
      behind,
      length-take-le (line_feed - at) (drop (at + 1) xs)
          (rw (length-drop (at + 1) xs) (omega (arith, lt, within))),
    ) (omega (arith, lt))) in
    ap₂ (λ (v w : List ℕ). v ++ w) (sym front) (sym middle ∙ sym (append-nil _) ∙ ap (λ (v : List ℕ).
    take (line_feed - (at + 1)) (drop (at + 1 - from) ys) ++ v) (sym rest))

-- what is left is what is left up to behind the first line end, and what is left of the rest
one_by : (from : ℕ) (return_at : Option ℕ) (line_feed : ℕ) (more bytes : List ℕ)
    → StandsBetween from return_at line_feed → line_feed + 1 - from ≤ length bytes
    → without from (bytes_by return_at line_feed ++ more) bytes
    ≡ without from (bytes_by return_at line_feed) (take (line_feed + 1 - from) bytes)
    ++ without (line_feed + 1) more (drop (line_feed + 1 - from) bytes)
one_by from None line_feed more bytes low within =
    let count : ℕ = line_feed + 1 - from in
    let front : take (line_feed - from) (take count bytes) ≡ take (line_feed - from) bytes =
    take-take (line_feed - from) count bytes (omega (arith, low)) in
    let rest : drop count (take count bytes) ≡ [] =
    all_gone (take count bytes) count (rw (length-take-le count bytes within) (omega arith)) in
    ap (λ (v : List ℕ). v ++ without (line_feed + 1) more (drop count bytes))
    (sym front ∙ sym (append-nil _) ∙ ap (λ (v : List ℕ). take (line_feed - from) (take count bytes) ++ v) (sym rest))
one_by from (Some at) line_feed more bytes (low, lt) within =
    let count : ℕ = line_feed + 1 - from in
    let skip : ℕ = at + 1 - from in
    let left : List ℕ = drop skip bytes in
    let front : take (at - from) (take count bytes) ≡ take (at - from) bytes =
    take-take (at - from) count bytes (omega (arith, low, lt)) in
    let behind : drop skip (take count bytes) ≡ take (line_feed - at) left =
    ap (λ (n : ℕ). drop skip (take n bytes)) (omega (arith, low, lt)) ∙ drop-take skip (line_feed - at) bytes in
    let middle : take (line_feed - (at + 1)) (drop skip (take count bytes)) ≡ take (line_feed - (at + 1)) left =
    ap (take (line_feed - (at + 1))) behind
    ∙ take-take (line_feed - (at + 1)) (line_feed - at) left (omega arith) in
    let rest : drop (line_feed + 1 - (at + 1)) (drop skip (take count bytes)) ≡ [] =
    all_gone _ (line_feed + 1 - (at + 1))
    (rw (behind, length-take-le (line_feed - at) left (rw (length-drop skip bytes) (omega (arith, low, lt, within))))
    (omega (arith, lt))) in
    let further : drop (line_feed + 1 - (at + 1)) left ≡ drop count bytes =
    drop-drop (line_feed + 1 - (at + 1)) skip bytes ∙ ap (λ (n : ℕ). drop n bytes) (omega (arith, low, lt)) in
    let both : take (line_feed - (at + 1)) left
    ≡ take (line_feed - (at + 1)) (drop skip (take count bytes))
    ++ drop (line_feed + 1 - (at + 1)) (drop skip (take count bytes)) =
    sym middle ∙ sym (append-nil _)
    ∙ ap (λ (v : List ℕ). take (line_feed - (at + 1)) (drop skip (take count bytes)) ++ v) (sym rest) in
    ap₂ (λ (v w : List ℕ). take (at - from) bytes ++ (v ++ without (line_feed + 1) more w)) both further
    ∙ sym (append_assoc (take (at - from) bytes) _ (without (line_feed + 1) more (drop count bytes)))
    ∙ ap (λ (v : List ℕ). (v ++ (take (line_feed - (at + 1)) (drop skip (take count bytes))
    ++ drop (line_feed + 1 - (at + 1)) (drop skip (take count bytes))))
    ++ without (line_feed + 1) more (drop count bytes)) (sym front)

pub one_out : (from : ℕ) (e : FullRowEnd) (more bytes : List ℕ) → StandsBetween from e.return_at e.line_feed
    → e.line_feed + 1 - from ≤ length bytes
    → without from (bytes_of e ++ more) bytes
    ≡ without from (bytes_of e) (take (e.line_feed + 1 - from) bytes)
    ++ without (e.line_feed + 1) more (drop (e.line_feed + 1 - from) bytes)
one_out from e more bytes stands within = one_by from e.return_at e.line_feed more bytes stands within

-- the bytes between two offsets stand in the first ones
pub window : (now start : List ℕ) (read count : ℕ) → read ≤ count → count ≤ length start
    → drop read now ≡ drop read start → take (count - read) (drop read now) ≡ drop read (take count start)
window now start read count order within same =
    ap (take (count - read)) same ∙ sym (drop-take read (count - read) start)
    ∙ ap (λ (n : ℕ). drop read (take n start)) (omega (arith, order))

-- ---- a turn of the loop
module _ (start memory new : List ℕ) (count kept read next : ℕ) (e : FullRowEnd) (later : List FullRowEnd)
    (within : count ≤ length start) (stands : StandsBetween read e.return_at e.line_feed)
    (order : read ≤ e.line_feed) (reached : e.line_feed + 1 ≤ count) (left : drop read memory ≡ drop read start)
    (wrote : take next new ≡ take kept memory
    ++ without read (bytes_of e) (take (e.line_feed + 1 - read) (drop read memory))) where
  abbrev bytes : List ℕ
  bytes = take count start

  abbrev here : ℕ
  here = e.line_feed + 1

  rest_long : length (drop read bytes) ≡ count - read
  rest_long =
      length-drop read bytes
      ∙ ap (λ (n : ℕ). n - read) (length-take-le count start within)

  same_front : take (here - read) (drop read memory) ≡ take (here - read) (drop read bytes)
  same_front =
      let ordered : read ≤ count = omega (arith, order, reached) in
      ap (take (here - read)) left
      ∙ sym (take-take (here - read) (count - read) (drop read start) (omega (arith, reached)))
      ∙ ap (take (here - read)) (sym (drop-take read (count - read) start)
      ∙ ap (λ (n : ℕ). drop read (take n start)) (omega (arith, ordered)))

  pub total_next : take next new ++ without here (flat_map bytes_of later) (drop here bytes)
      ≡ take kept memory ++ without read (flat_map bytes_of (e ∷ later)) (drop read bytes)
  total_next =
      let further : drop here bytes ≡ drop (here - read) (drop read bytes) =
      ap (λ (n : ℕ). drop n bytes) (omega (arith, order)) ∙ sym (drop-drop (here - read) read bytes) in
      ap₂ (λ (v w : List ℕ). v ++ without here (flat_map bytes_of later) w) wrote further
      ∙ append_assoc (take kept memory) _ _
      ∙ ap (λ (v : List ℕ). take kept memory ++ (without read (bytes_of e) v
      ++ without here (flat_map bytes_of later) (drop (here - read) (drop read bytes)))) same_front
      ∙ ap (λ (v : List ℕ). take kept memory ++ v)
      (sym (one_out read e (flat_map bytes_of later) (drop read bytes) stands (rw rest_long (omega (arith, reached)))))

-- the line end stands behind where the play went on
pub feed_behind : (from : ℕ) (return_at : Option ℕ) (line_feed : ℕ) → StandsBetween from return_at line_feed
    → from ≤ line_feed
feed_behind from None line_feed stands = stands
feed_behind from (Some at) line_feed (low, lt) = omega (arith, low, lt)

pub counted_within : (times : Option Times) (at most : ℕ) → count_of times ≤ most
    → count_of (counted times true at) ≤ most + 1
counted_within None at most few = omega arith
counted_within (Some times) at most few = omega (arith, few)

-- ---- from turn to turn
module _ (start : List ℕ) (rows : RowPlay) (memory : List ℕ) (count read : ℕ) (within : count ≤ length start)
    (place : read ≡ rows.played) (order : read ≤ count) (left : drop read memory ≡ drop read start)
    (later : List FullRowEnd) where
  -- the play stands before the bytes that are left
  pub over_window : AreEndsOver rows (drop read (take count start)) later
      → AreEndsOver rows (take (count - read) (drop read memory)) later
  over_window over =
      subst (λ (v : List ℕ). AreEndsOver rows v later) (sym (window memory start read count order within left)) over

  -- and goes on before those that are left then
  pub next_window : (new : RowPlay) (e : FullRowEnd)
      → (first : IsFirstEnd rows (take (count - read) (drop read memory)) later new e)
      → read ≤ new.played → AreEndsOver new (drop new.played (take count start)) first.later
  next_window new e first up =
      subst (λ (v : List ℕ). AreEndsOver new v first.later)
      (ap₂ (λ (n : ℕ) (v : List ℕ). drop (new.played - n) v) (sym place)
      (window memory start read count order within left)
      ∙ drop-drop (new.played - read) read (take count start)
      ∙ ap (λ (n : ℕ). drop n (take count start)) (omega (arith, up)))
      first.goes_on
