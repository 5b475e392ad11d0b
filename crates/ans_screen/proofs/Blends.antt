-- Sixteen lanes of which the first are new, and planes that are written by them.
use Rattle.std.proofs.Common.{◌≡◌, ℕ, ◌+◌, ◌-◌, ◌≤◌, ◌<◌, Bool, false, cond, List, ◌++◌, take, drop, replicate, length}
use Rattle.std.proofs.Common.{get_or, map, refl, ap, sym, ◌∙◌, arith, inl, inr, append_assoc}
use Rattle.std.specs.List.{range_with_len}
use Rattle.std.proofs.lemmas.Bool.{cases_lt, lt-ltb, le-ltb}
use Rattle.std.proofs.lemmas.List.{get_or-take, get_or-drop, get_or_append_left, get_or-append_right, length-take-le}
use Rattle.std.proofs.lemmas.List.{length-drop, length-append, same_lists, take_all, take-replicate, take-append-drop}
use Rattle.std.proofs.lemmas.List.{drop-append-le, drop-drop}
use Rattle.std.proofs.lemmas.List.FromFn.{get_or-range_with_len}
use Rattle.std.proofs.lemmas.Simd.{tops_compared, length-sel_l, get_or-sel_l, length-zip2, get_or-zip2}
use Rattle.std.proofs.lemmas.Simd.{get_or-replicate, put_chunk_whole}
use Rattle.ans_model.specs.Screen.Step.{filled}
use Rattle.ans_screen.specs.GridEdits.{written}
use Rattle.ans_screen.proofs.Places.{filled_is_written}
use lib.Dec.{ltb}
use lib.Lanes.{zip2, sel_l, top, put_chunk}
use mir.Syntax.{w8}
use mir.Val.{hbits}

-- the lanes below `count`
abbrev lanes_below : ℕ → List Bool
lanes_below count = zip2 ltb (range_with_len 0 16) (replicate 16 count)

length_lanes : (count : ℕ) → length (lanes_below count) ≡ 16
length_lanes count = length-zip2 ltb (range_with_len 0 16) (replicate 16 count) refl

lane_is : (count k : ℕ) → k < 16 → get_or (lanes_below count) k false ≡ ltb k count
lane_is count k lt =
    let lane = get_or-range_with_len 0 16 k 0 lt in
    let same : 0 + k ≡ k = omega arith in
    get_or-zip2 ltb (range_with_len 0 16) (replicate 16 count) k 0 0 false lt lt
    ∙ (ap (λ (n : ℕ). ltb n (get_or (replicate 16 count) k 0)) (lane ∙ same)
    ∙ ap (λ (n : ℕ). ltb k n) (get_or-replicate 16 k count 0 lt))

-- of two lists of 16, the first `count` of one and the rest of the other
pub selected_is : (new old : List ℕ) (count : ℕ) → length new ≡ 16 → length old ≡ 16 → count ≤ 16
    → sel_l (lanes_below count) new old ≡ take count new ++ drop count old
selected_is new old count ln lo le =
    let ms = lanes_below count in
    let lm : length ms ≡ 16 = length_lanes count in
    let lt : length (take count new) ≡ count = length-take-le count new (omega arith) in
    let long : length (sel_l ms new old) ≡ 16 = length-sel_l ms new old (lm ∙ sym ln) (lm ∙ sym lo) ∙ lm in
    let both : length (take count new ++ drop count old) ≡ 16 =
    length-append (take count new) (drop count old) ∙ omega (arith, length-drop count old) in
    same_lists _ _ (long ∙ sym both) (λ k d within.
    let low : k < 16 = omega arith in
    get_or-sel_l ms new old k d (omega arith) (omega arith) (omega arith)
    ∙ (ap (λ (b : Bool). cond b (get_or new k d) (get_or old k d)) (lane_is count k low)
    ∙ elim (cases_lt k count) [
      | inl below ↦
          rw (lt-ltb k count below)
          (sym (get_or-take count new k d below)
          ∙ sym (get_or_append_left (take count new) (drop count old) d k (omega arith)))
      | inr above ↦
          let at : count + (k - count) ≡ k = omega arith in
          rw (le-ltb k count above)
          (ap (λ (j : ℕ). get_or old j d) (sym at)
          ∙ (sym (get_or-drop count old (k - count) d)
          ∙ sym (get_or-append_right (take count new) (drop count old) count k d lt above)))
    ]))

-- what lies behind the new lanes is what lay there
lanes_behind : (xs : List ℕ) (from count : ℕ) → count ≤ 16 → from + 16 ≤ length xs
    → drop count (take 16 (drop from xs)) ++ drop 16 (drop from xs) ≡ drop (from + count) xs
lanes_behind xs from count le room =
    let tail = drop from xs in
    let long : length (take 16 tail) ≡ 16 = length-take-le 16 tail (omega (arith, length-drop from xs)) in
    sym (drop-append-le count (take 16 tail) (drop 16 tail) (omega arith))
    ∙ (ap (λ (ys : List ℕ). drop count ys) (take-append-drop 16 tail) ∙ drop-drop count from xs)

-- a store of those lanes, by the mask of a comparison
pub masked_store_blends : (new old : List ℕ) (count : ℕ) → length new ≡ 16 → length old ≡ 16 → count ≤ 16
    → put_chunk 0 old (sel_l (map (top (hbits w8)) (zip2 (λ (a b : ℕ). cond (ltb a b) 255 0)
    (range_with_len 0 16) (replicate 16 count))) new (take 16 old))
    ≡ take count new ++ drop count old
masked_store_blends new old count ln lo le =
    let mask = tops_compared w8 ltb (range_with_len 0 16) (replicate 16 count) in
    let all : take 16 old ≡ old = take_all 16 old (omega arith) in
    let ms = lanes_below count in
    let lm : length ms ≡ 16 = length_lanes count in
    let long : length (sel_l ms new old) ≡ 16 = length-sel_l ms new old (lm ∙ sym ln) (lm ∙ sym lo) ∙ lm in
    ap (λ (bs : List Bool). put_chunk 0 old (sel_l bs new (take 16 old))) mask
    ∙ (ap (λ (ys : List ℕ). put_chunk 0 old (sel_l ms new ys)) all
    ∙ (put_chunk_whole old (sel_l ms new old) (lo ∙ sym long) ∙ selected_is new old count ln lo le))

-- a plane of which 16 bytes are such lanes
pub blended_plane : (xs new : List ℕ) (from count : ℕ) → length new ≡ 16 → count ≤ 16 → from + 16 ≤ length xs
    → take from xs ++ ((take count new ++ drop count (take 16 (drop from xs))) ++ drop 16 (drop from xs))
    ≡ written xs from (take count new)
blended_plane xs new from count ln le room =
    let len : length (take count new) ≡ count = length-take-le count new (omega arith) in
    rw len
    (ap (λ (ys : List ℕ). take from xs ++ ys)
    (append_assoc (take count new) (drop count (take 16 (drop from xs))) (drop 16 (drop from xs))
    ∙ ap (λ (ys : List ℕ). take count new ++ ys) (lanes_behind xs from count le room)))

-- equal lanes are a short fill
short_run : (xs : List ℕ) (from count byte : ℕ) → count ≤ 16
    → written xs from (take count (replicate 16 byte)) ≡ filled xs from (from + count) byte
short_run xs from count byte short =
    ap (λ (ys : List ℕ). written xs from ys) (take-replicate count 16 byte short)
    ∙ sym (filled_is_written xs from count byte)

-- and from one place up to another
pub short_fill : (xs : List ℕ) (from to byte : ℕ) → from ≤ to → to - from ≤ 16
    → written xs from (take (to - from) (replicate 16 byte)) ≡ filled xs from to byte
short_fill xs from to byte le short =
    let end : from + (to - from) ≡ to = omega arith in
    short_run xs from (to - from) byte short ∙ ap (λ (n : ℕ). filled xs from n byte) end
