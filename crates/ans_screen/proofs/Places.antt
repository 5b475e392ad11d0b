-- The elements of a list after some of them are written, and a list that is made of a function of the index.
use Rattle.std.proofs.Common.{◌≡◌, ℕ, zero, suc, ◌+◌, ◌-◌, ◌*◌, ◌/◌, ◌%◌, ◌≤◌, ◌<◌, ◌⊎◌, inl, inr, refl, ap, sym, ◌∙◌}
use Rattle.std.proofs.Common.{List, [], ◌∷◌, ◌++◌, take, drop, set, map, replicate, length, get_or, append_assoc, arith}
use Rattle.std.specs.List.{range_with_len}
use Rattle.std.proofs.lemmas.Bool.{cases_lt}
use Rattle.std.proofs.lemmas.List.{length-append, length-replicate, get_or-replicate, replicate-append-replicate}
use Rattle.std.proofs.lemmas.List.{drop-drop, same_lists, set_split, take-append-drop}
use Rattle.std.proofs.lemmas.List.Edits.{paste_all, paste-paste}
use Rattle.std.proofs.lemmas.List.FromFn.{length-range_with_len, length-map-range_with_len, get_or-map-range_with_len}
use Rattle.std.proofs.lemmas.Nat.{div-mul-add, div-add-mod', mod_below, div_below, mul-le, row_fits_turned}
use Rattle.std.proofs.lemmas.Simd.{splat_is_map, length-put_chunk, put_chunk_is}
use Rattle.std.proofs.lemmas.Simd.{get_or-put_chunk_below, get_or-put_chunk_at, get_or-put_chunk_above}
use Rattle.ans_model.specs.Screen.Step.{filled}
use Rattle.ans_screen.specs.GridEdits.{written}
use lib.Lanes.{put_chunk}
use lib.Seq.{paste}

-- what is filled is written with equal elements
pub filled_is_written : {A : Type 0} (xs : List A) (from n : ℕ) (x : A)
    → filled xs from (from + n) x ≡ written xs from (replicate n x)
filled_is_written xs from n x =
    let count : from + n - from ≡ n = omega arith in
    let len : length (replicate n x) ≡ n = length-replicate n x in
    rw (count, len) (append_assoc (take from xs) (replicate n x) (drop (from + n) xs))

module _ {A : Type 0} where
  -- ---- a list after a part is written, which is a store of a chunk
  stored : (xs : List A) (from : ℕ) (new : List A) → from + length new ≤ length xs
      → written xs from new ≡ put_chunk from xs new
  stored xs from new room =
      ap (λ (ys : List A). take from xs ++ (new ++ ys)) (sym (drop-drop (length new) from xs))
      ∙ sym (put_chunk_is from xs new room)

  pub length-written : (xs : List A) (from : ℕ) (new : List A) → from + length new ≤ length xs
      → length (written xs from new) ≡ length xs
  length-written xs from new room = ap length (stored xs from new room) ∙ length-put_chunk from xs new

  pub written_before : (xs : List A) (from : ℕ) (new : List A) (i : ℕ) (d : A) → from + length new ≤ length xs
      → i < from → get_or (written xs from new) i d ≡ get_or xs i d
  written_before xs from new i d room lt =
      ap (λ (ys : List A). get_or ys i d) (stored xs from new room) ∙ get_or-put_chunk_below from xs new i d lt

  pub written_at : (xs : List A) (from : ℕ) (new : List A) (j : ℕ) (d : A) → from + length new ≤ length xs
      → j < length new → get_or (written xs from new) (from + j) d ≡ get_or new j d
  written_at xs from new j d room lt =
      ap (λ (ys : List A). get_or ys (from + j) d) (stored xs from new room)
      ∙ get_or-put_chunk_at from xs new j d lt room

  pub written_behind : (xs : List A) (from : ℕ) (new : List A) (i : ℕ) (d : A) → from + length new ≤ length xs
      → from + length new ≤ i → get_or (written xs from new) i d ≡ get_or xs i d
  written_behind xs from new i d room past =
      ap (λ (ys : List A). get_or ys i d) (stored xs from new room) ∙ get_or-put_chunk_above from xs new i d past

  -- a list of which a part is new, and the rest as it was
  pub is_written : (xs ys : List A) (from : ℕ) (new : List A) → length ys ≡ length xs
      → from + length new ≤ length xs
      → ((i : ℕ) (d : A) → i < length xs → (i < from) ⊎ (from + length new ≤ i) → get_or ys i d ≡ get_or xs i d)
      → ((j : ℕ) (d : A) → j < length new → get_or ys (from + j) d ≡ get_or new j d) → ys ≡ written xs from new
  is_written xs ys from new len room outside inside =
      same_lists ys (written xs from new) (len ∙ sym (length-written xs from new room)) (λ k d lt.
      elim (cases_lt k from) [
        | inl before ↦
            outside k d (omega arith) (inl before) ∙ sym (written_before xs from new k d (omega arith) before)
        | inr after ↦ elim (cases_lt k (from + length new)) [
          | inl within ↦
              let at : from + (k - from) ≡ k = omega arith in
              ap (λ (n : ℕ). get_or ys n d) (sym at)
              ∙ (inside (k - from) d (omega arith)
              ∙ (sym (written_at xs from new (k - from) d (omega arith) (omega arith))
              ∙ ap (λ (n : ℕ). get_or (written xs from new) n d) at))
          | inr past ↦
              outside k d (omega arith) (inr past) ∙ sym (written_behind xs from new k d (omega arith) past)
        ]
      ])

  pub written_none : (xs : List A) (from : ℕ) → written xs from [] ≡ xs
  written_none xs from =
      let at : from + 0 ≡ from = omega arith in
      ap (λ (n : ℕ). take from xs ++ drop n xs) at ∙ take-append-drop from xs

  -- what is written goes on where another part ended
  pub written_on : (xs : List A) (from : ℕ) (new more : List A) → from ≤ length xs
      → written (written xs from new) (from + length new) more ≡ written xs from (new ++ more)
  written_on xs from new more le =
      sym (paste_all (written xs from new) (from + length new) more (length more) refl)
      ∙ (ap (λ (ys : List A). paste ys (from + length new) more (length more))
      (sym (paste_all xs from new (length new) refl))
      ∙ (paste-paste xs from new more (length new) (length more) refl refl le
      ∙ (paste_all xs from (new ++ more) (length new + length more) (sym (length-append new more))
      ∙ ap (λ (n : ℕ). take from xs ++ ((new ++ more) ++ drop (from + n) xs)) (sym (length-append new more)))))

  written_one : (xs : List A) (i : ℕ) (x : A) → i < length xs → written xs i (x ∷ []) ≡ set xs i x
  written_one xs i x lt =
      let next : i + 1 ≡ suc i = omega arith in
      ap (λ (n : ℕ). take i xs ++ (x ∷ drop n xs)) next ∙ sym (set_split xs i x lt)

  -- one more element is written behind
  pub written_more : (xs : List A) (from n : ℕ) (new : List A) (x : A) → length new ≡ n → from + n < length xs
      → set (written xs from new) (from + n) x ≡ written xs from (new ++ x ∷ [])
  written_more xs from n new x len room =
      sym (written_one (written xs from new) (from + n) x (omega (arith, length-written xs from new (omega arith))))
      ∙ (ap (λ (k : ℕ). written (written xs from new) (from + k) (x ∷ [])) (sym len)
      ∙ written_on xs from new (x ∷ []) (omega arith))

  -- ---- a list that is made of a function of the index
  pub same_from_index : (f h : ℕ → A) (n : ℕ) → ((i : ℕ) → i < n → f i ≡ h i)
      → map f (range_with_len 0 n) ≡ map h (range_with_len 0 n)
  same_from_index f h n same =
      same_lists (map f (range_with_len 0 n)) (map h (range_with_len 0 n))
      (length-map-range_with_len f 0 n ∙ sym (length-map-range_with_len h 0 n)) (λ k d lt.
      let len = length-map-range_with_len f 0 n in
      let within : k < n = omega arith in
      get_or-map-range_with_len f 0 n k k d within (omega arith)
      ∙ (same k within ∙ sym (get_or-map-range_with_len h 0 n k k d within (omega arith))))

  pub one_from_index : (f : ℕ → A) (n : ℕ) (x : A) → ((i : ℕ) → i < n → f i ≡ x)
      → map f (range_with_len 0 n) ≡ replicate n x
  one_from_index f n x one =
      same_from_index f (λ (i : ℕ). x) n one
      ∙ sym (splat_is_map (range_with_len 0 n) n x (length-range_with_len 0 n))

  pub get_or-map_within : {B : Type 0} (f : B → A) (xs : List B) (i : ℕ) (b : B) (d : A) → i < length xs
      → get_or (map f xs) i d ≡ f (get_or xs i b)
  get_or-map_within f [] i b d lt = absurd (omega arith)
  get_or-map_within f (x ∷ xs) zero b d lt = refl
  get_or-map_within f (x ∷ xs) (suc i) b d lt = get_or-map_within f xs i b d (omega arith)

  pub map-replicate : {B : Type 0} (f : B → A) (n : ℕ) (x : B) → map f (replicate n x) ≡ replicate n (f x)
  map-replicate f zero x = refl
  map-replicate f (suc n) x = ap (λ (ys : List A). f x ∷ ys) (map-replicate f n x)

-- what is filled, as a run of equal elements
pub filled_run : {A : Type 0} (xs : List A) (from to : ℕ) (x : A) → from ≤ to
    → filled xs from to x ≡ written xs from (replicate (to - from) x)
filled_run xs from to x le =
    let end : from + (to - from) ≡ to = omega arith in
    ap (λ (n : ℕ). filled xs from n x) (sym end) ∙ filled_is_written xs from (to - from) x

-- a fill that goes on where another ended
pub filled_on : {A : Type 0} (xs : List A) (from mid to : ℕ) (x : A) → from ≤ mid → mid ≤ to → to ≤ length xs
    → filled (filled xs from mid x) mid to x ≡ filled xs from to x
filled_on {A = A} xs from mid to x first second room =
    let front = replicate (mid - from) x in
    let behind = replicate (to - mid) x in
    let at : from + length front ≡ mid = omega (arith, length-replicate (mid - from) x) in
    let whole : mid - from + (to - mid) ≡ to - from = omega arith in
    filled_run (filled xs from mid x) mid to x second
    ∙ (ap (λ (ys : List A). written ys mid behind) (filled_run xs from mid x first)
    ∙ (ap (λ (n : ℕ). written (written xs from front) n behind) (sym at)
    ∙ (written_on xs from front behind (omega arith)
    ∙ (ap (λ (ys : List A). written xs from ys)
    (replicate-append-replicate (mid - from) (to - mid) x ∙ ap (λ (n : ℕ). replicate n x) whole)
    ∙ sym (filled_run xs from to x (omega arith))))))

-- a fill of one element
pub filled_one : {A : Type 0} (xs : List A) (i : ℕ) (x : A) → i < length xs → filled xs i (i + 1) x ≡ set xs i x
filled_one xs i x lt = filled_is_written xs i 1 x ∙ written_one xs i x lt

-- ---- a plane that is as it was but from `from` up to and without `to`
pub record Keeps (xs ys : List ℕ) (from to : ℕ) : Type 0 where
  pub outside : (i : ℕ) → (i < from) ⊎ (to ≤ i) → get_or ys i 0 ≡ get_or xs i 0

pub keeps_all : (xs : List ℕ) (from to : ℕ) → Keeps xs xs from to
keeps_all xs from to = record { outside = λ i out. refl }

pub keeps_written : (xs ys : List ℕ) (from to : ℕ) (new : List ℕ) → ys ≡ written xs from new → to ≡ from + length new
    → to ≤ length xs → Keeps xs ys from to
keeps_written xs ys from to new e end room = record {
  outside =
      λ i out. ap (λ (zs : List ℕ). get_or zs i 0) e ∙ elim out [
        | inl before ↦ written_before xs from new i 0 (omega arith) before
        | inr past ↦ written_behind xs from new i 0 (omega arith) (omega arith)
      ];
}

pub keeps_filled : (xs ys : List ℕ) (from to x : ℕ) → ys ≡ filled xs from to x → from ≤ to → to ≤ length xs
    → Keeps xs ys from to
keeps_filled xs ys from to x e le room =
    let len = length-replicate (to - from) x in
    keeps_written xs ys from to (replicate (to - from) x) (e ∙ filled_run xs from to x le) (omega arith) room

pub filled_within : (xs ys : List ℕ) (from to x i : ℕ) → ys ≡ filled xs from to x → to ≤ length xs → from ≤ i → i < to
    → get_or ys i 0 ≡ x
filled_within xs ys from to x i e room le lt =
    let len = length-replicate (to - from) x in
    let at : from + (i - from) ≡ i = omega arith in
    ap (λ (zs : List ℕ). get_or zs i 0) (e ∙ filled_run xs from to x (omega arith))
    ∙ (ap (λ (n : ℕ). get_or (written xs from (replicate (to - from) x)) n 0) (sym at)
    ∙ (written_at xs from (replicate (to - from) x) (i - from) 0 (omega arith) (omega arith)
    ∙ get_or-replicate (to - from) (i - from) x 0 (omega arith)))

-- ---- the row of a place
pub row_of : (w row i : ℕ) → row * w ≤ i → i < row * w + w → i / w ≡ row
row_of w row i le lt =
    let at : row * w + (i - row * w) ≡ i = omega arith in
    ap (λ (n : ℕ). n / w) (sym at) ∙ div-mul-add row w (i - row * w) (omega arith)

-- and the places of a row
pub places_of : (w row i : ℕ) → 0 < w → i / w ≡ row → (row * w ≤ i) × (i < row * w + w)
places_of w row i some at =
    let parts = div-add-mod' i w in
    let below : i % w < w = mod_below i w some in
    let start : i / w * w ≡ row * w = ap (λ (r : ℕ). r * w) at in
    (omega (arith, parts, start), omega (arith, parts, start, below))

pub row_end : (w row rows : ℕ) → row < rows → row * w + w ≤ w * rows
row_end w row rows lt = row_fits_turned row w w rows lt (omega arith)

pub row_below : (w rows i : ℕ) → 0 < w → i < w * rows → i / w < rows
row_below w rows i some lt = div_below i w rows some (omega arith)

-- each row from that of one place on to that of the last place before another has places between the two
pub row_between : (w from to row : ℕ) → 0 < w → from < to → from / w ≤ row → row < (to - 1) / w + 1
    → (row * w < to) × (from < row * w + w)
row_between w from to row some lt le before =
    let first = div-add-mod' from w in
    let column : from % w < w = mod_below from w some in
    let last = div-add-mod' (to - 1) w in
    let above : from / w * w ≤ row * w = mul-le (from / w) w row w le (omega arith) in
    let below : row * w ≤ (to - 1) / w * w = mul-le row w ((to - 1) / w) w (omega arith) (omega arith) in
    (omega arith, omega arith)
