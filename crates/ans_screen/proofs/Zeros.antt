-- A plane of which the first bytes are held, and each byte behind them is 0.
use Rattle.std.proofs.Common.{◌≡◌, ℕ, ◌+◌, ◌-◌, ◌≤◌, ◌<◌, List, ◌++◌, take, drop, replicate, length, min, Some}
use Rattle.std.specs.Prelude.{slice_range}
use Rattle.std.proofs.lemmas.List.Edits.{get_or-between}
use Rattle.std.proofs.Common.{get_or, refl, ap, sym, ◌∙◌, arith, inl, inr, append_assoc}
use Rattle.std.proofs.lemmas.Bool.{cases_lt}
use Rattle.std.proofs.Math.Seq.{take-append_seam}
use Rattle.std.proofs.lemmas.List.{length-replicate, get_or_append_left, get_or-append_right}
use Rattle.std.proofs.lemmas.List.{get_or-replicate, get_or_past, replicate-append-replicate, drop-append-le}
use Rattle.std.proofs.lemmas.List.{take-append-le, length-take-le, length-drop, get_or-take, get_or-drop}
use Rattle.ans_model.specs.Screen.Step.{filled}
use Rattle.ans_screen.specs.CellPlanes.{with_zeros, IsFront, AreKnown, IsFirstGap}
use Rattle.ans_screen.specs.GridEdits.{written}
use Rattle.ans_screen.proofs.Places.{filled_run}

get_or_zeros : (n i : ℕ) → ◌≡◌ {A = ℕ} (get_or (replicate n 0) i 0) 0
get_or_zeros n i = elim (cases_lt i n) [
  | inl lt ↦ get_or-replicate n i 0 0 lt
  | inr past ↦ get_or_past (replicate n 0) i 0 (omega (arith, length-replicate {A = ℕ} n 0))
]

-- a byte that is held, and one that is not
pub held_byte : (xs : List ℕ) (zeros i : ℕ) → i < length xs → get_or (with_zeros xs zeros) i 0 ≡ get_or xs i 0
held_byte xs zeros i lt = get_or_append_left xs (replicate zeros 0) 0 i lt

pub zero_byte : (xs : List ℕ) (zeros i : ℕ) → length xs ≤ i → get_or (with_zeros xs zeros) i 0 ≡ 0
zero_byte xs zeros i past =
    get_or-append_right xs (replicate zeros 0) (length xs) i 0 refl past
    ∙ get_or_zeros zeros (i - length xs)

-- some more of the zeros are held
pub more_held : (xs : List ℕ) (zeros more : ℕ) → more ≤ zeros
    → with_zeros (with_zeros xs more) (zeros - more) ≡ with_zeros xs zeros
more_held xs zeros more le =
    let all : more + (zeros - more) ≡ zeros = omega arith in
    append_assoc xs (replicate more 0) (replicate (zeros - more) 0)
    ∙ (ap (λ (ys : List ℕ). xs ++ ys) (replicate-append-replicate more (zeros - more) 0)
    ∙ ap (λ (n : ℕ). with_zeros xs n) all)

-- what is written to bytes that are held is written to the plane
pub written_held : (xs : List ℕ) (zeros from : ℕ) (new : List ℕ) → from + length new ≤ length xs
    → with_zeros (written xs from new) zeros ≡ written (with_zeros xs zeros) from new
written_held xs zeros from new room =
    let tail : List ℕ = replicate zeros 0 in
    let behind = drop (from + length new) xs in
    append_assoc (take from xs) (new ++ behind) tail
    ∙ (ap (λ (ys : List ℕ). take from xs ++ ys) (append_assoc new behind tail)
    ∙ (ap (λ (ys : List ℕ). take from xs ++ (new ++ ys)) (sym (drop-append-le (from + length new) xs tail room))
    ∙ ap (λ (ys : List ℕ). ys ++ (new ++ drop (from + length new) (with_zeros xs zeros)))
    (sym (take-append-le from xs tail (omega arith)))))

pub filled_held : (xs : List ℕ) (zeros from to byte : ℕ) → from ≤ to → to ≤ length xs
    → with_zeros (filled xs from to byte) zeros ≡ filled (with_zeros xs zeros) from to byte
filled_held xs zeros from to byte le room =
    let len = length-replicate (to - from) byte in
    ap (λ (ys : List ℕ). with_zeros ys zeros) (filled_run xs from to byte le)
    ∙ (written_held xs zeros from (replicate (to - from) byte) (omega arith)
    ∙ sym (filled_run (with_zeros xs zeros) from to byte le))

-- ---- bytes of a vector that are stored through a slice of it
stored : (n : ℕ) (xs new : List ℕ) → n ≡ length xs → length new ≡ length xs
    → take n (new ++ drop (length new) xs) ≡ new
stored n xs new count len =
    let all : n ≡ length new = omega arith in
    ap (λ (k : ℕ). take k (new ++ drop (length new) xs)) all ∙ take-append_seam new (drop (length new) xs)

pub filled_stored : (n : ℕ) (xs slice new : List ℕ) (zeros from to byte : ℕ) → n ≡ length xs → slice ≡ xs
    → length new ≡ length slice → new ≡ filled slice from to byte → from ≤ to → to ≤ length xs
    → with_zeros (take n (new ++ drop (length new) xs)) zeros ≡ filled (with_zeros xs zeros) from to byte
filled_stored n xs slice new zeros from to byte count same len is le room =
    let after = stored n xs new count (len ∙ ap length same) in
    let part = ap (λ (ys : List ℕ). filled ys from to byte) same in
    ap (λ (ys : List ℕ). with_zeros ys zeros) (after ∙ (is ∙ part))
    ∙ filled_held xs zeros from to byte le room

pub written_stored : (n : ℕ) (xs slice new : List ℕ) (zeros from : ℕ) (run : List ℕ) → n ≡ length xs → slice ≡ xs
    → length new ≡ length slice → new ≡ written slice from run → from + length run ≤ length xs
    → with_zeros (take n (new ++ drop (length new) xs)) zeros ≡ written (with_zeros xs zeros) from run
written_stored n xs slice new zeros from run count same len is room =
    let after = stored n xs new count (len ∙ ap length same) in
    let part = ap (λ (ys : List ℕ). written ys from run) same in
    ap (λ (ys : List ℕ). with_zeros ys zeros) (after ∙ (is ∙ part))
    ∙ written_held xs zeros from run room

-- ---- the part of a plane that is held
pub front_held : (xs : List ℕ) (from to at end : ℕ) → from ≤ to → end ≡ min to (length xs) → at ≡ min from end
    → (zeros : ℕ) → IsFront (take (end - at) (drop at xs)) (with_zeros xs zeros) from to
front_held xs from to at end le is_end is_at zeros =
    let front = take (end - at) (drop at xs) in
    let long : length front ≡ end - at =
    length-take-le (end - at) (drop at xs) (omega (arith, length-drop at xs)) in
    record {
      within = omega arith;
      each = λ k lt. elim (cases_lt (from + k) (length xs)) [
        | inl here ↦
            let place : at ≡ from = omega arith in
            get_or-take (end - at) (drop at xs) k 0 (omega arith)
            ∙ (get_or-drop at xs k 0
            ∙ (ap (λ (n : ℕ). get_or xs (n + k) 0) place ∙ sym (held_byte xs zeros (from + k) here)))
        | inr past ↦
            get_or_past front k 0 (omega arith) ∙ sym (zero_byte xs zeros (from + k) past)
      ];
    }

-- ---- the first bytes of a part of a plane
in_slice : (front plane : List ℕ) (from to : ℕ) → IsFront front plane from to
    → (k : ℕ) → k < to - from → get_or front k 0 ≡ get_or (slice_range plane from to) k 0
in_slice front plane from to is k lt =
    is.each k (omega arith) ∙ sym (get_or-between plane from to k 0 (omega arith))

known_from : (ks bs ls cs : List ℕ) (n m : ℕ) → ((k : ℕ) → k < m → get_or ks k 0 ≡ get_or ls k 0)
    → ((k : ℕ) → k < m → get_or bs k 0 ≡ get_or cs k 0) → n ≤ m → AreKnown ks bs n → AreKnown ls cs n
known_from ks bs ls cs n m glyphs bits le known k lt =
    (sym (glyphs k (omega arith)) ∙ (known k lt).0, sym (bits k (omega arith)) ∙ (known k lt).1)

-- a gap in them is one in the parts of the planes
pub gap_in_slices : (ks bs glyphs bits : List ℕ) (from to i : ℕ) → IsFront glyphs ks from to → IsFront bits bs from to
    → i < to - from → AreKnown glyphs bits i → (AreKnown glyphs bits (i + 1) → ⊥)
    → IsFirstGap (slice_range ks from to) (slice_range bs from to) (to - from) (Some i)
gap_in_slices ks bs glyphs bits from to i front_k front_b lt known gap =
    let one = in_slice glyphs ks from to front_k in
    let two = in_slice bits bs from to front_b in (
      lt,
      known_from glyphs bits (slice_range ks from to) (slice_range bs from to) i (to - from) one two (omega arith)
          known,
      λ all. gap (known_from (slice_range ks from to) (slice_range bs from to) glyphs bits (i + 1) (to - from)
          (λ k l. sym (one k l)) (λ k l. sym (two k l)) (omega arith) all),
    )

-- and behind the shorter of two there is one
pub end_is_gap : (glyphs bits : List ℕ) (n : ℕ) → n ≡ min (length glyphs) (length bits)
    → AreKnown glyphs bits (n + 1) → ⊥
end_is_gap glyphs bits n is known =
    let at = known n (omega arith) in
    elim (cases_lt n (length glyphs)) [
      | inl within ↦ omega (arith, get_or_past bits n 0 (omega arith), at.1)
      | inr past ↦ omega (arith, get_or_past glyphs n 0 past, at.0)
    ]

-- bytes stored over zeros
pub over_zeros : (new zs : List ℕ) (count n k : ℕ) → length new ≡ count → zs ≡ replicate n 0
    → get_or (new ++ drop count zs) k 0 ≡ get_or new k 0
over_zeros new zs count n k len zeros = elim (cases_lt k (length new)) [
  | inl lt ↦ get_or_append_left new (drop count zs) 0 k lt
  | inr past ↦
      get_or-append_right new (drop count zs) (length new) k 0 refl past
      ∙ (get_or-drop count zs (k - length new) 0
      ∙ (ap (λ (ys : List ℕ). get_or ys (count + (k - length new)) 0) zeros
      ∙ (get_or_zeros n (count + (k - length new)) ∙ sym (get_or_past new k 0 past))))
]
