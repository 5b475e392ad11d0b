-- Chunks of 32 bytes that are all FFh, and where they stand in a plane.
use Rattle.std.proofs.Common.{◌≡◌, ◌↔◌, ℕ, zero, suc, ◌+◌, ◌-◌, ◌*◌, ◌/◌, ◌%◌, ◌^◌, ◌<◌, Bool, true, false, not, cond}
use Rattle.std.proofs.Common.{eqb, List, [], ◌∷◌, map, take, drop, replicate, length, get_or, bit_and, IsTrue, Fits, w8}
use Rattle.std.proofs.Common.{refl, ap, sym, ◌∙◌, arith, inl, inr, eqb-true, eq-eqb}
use Rattle.std.specs.Simd.{first_chunks}
use Rattle.std.proofs.lemmas.Bool.{cases_lt}
use Rattle.std.proofs.lemmas.Nat.{and_le_l, and_le_r}
use Rattle.std.proofs.lemmas.List.{get_or-take, get_or-drop}
use Rattle.std.proofs.lemmas.Simd.{bitmask_splat, length-zip2, get_or-zip2, below_from_Fits, Each1-get_or}
use lib.Lanes.{zip2, mask_l, top, Each1}
use Rattle.ans_screen.specs.CellPlanes.{AreKnown}

-- ---- the mask of the bytes that are not FFh
abbrev differing : List ℕ → ℕ
differing xs = mask_l (map (λ (x : ℕ). not (eqb x 0xFF)) xs)

-- where the mask is empty, each byte is FFh
first_is_full : (t : Bool) (m : ℕ) → cond (not t) 1 0 + 2 * m ≡ 0 → (t ≡ true) × (m ≡ 0)
first_is_full true m e = (refl, omega arith)
first_is_full false m e = absurd (omega arith)

full_from_mask : (xs : List ℕ) → differing xs ≡ 0 → (k : ℕ) → k < length xs → get_or xs k 0 ≡ 0xFF
full_from_mask [] e k lt = absurd (omega arith)
full_from_mask (x ∷ xs) e zero lt = eqb-true x 0xFF (first_is_full (eqb x 0xFF) (differing xs) e).0
full_from_mask (x ∷ xs) e (suc k) lt =
    full_from_mask xs (first_is_full (eqb x 0xFF) (differing xs) e).1 k (omega arith)

-- where each byte is FFh, the mask is empty
mask_from_full : (xs : List ℕ) → ((k : ℕ) → k < length xs → get_or xs k 0 ≡ 0xFF) → differing xs ≡ 0
mask_from_full [] full = refl
mask_from_full (x ∷ xs) full =
    let first : eqb x 0xFF ≡ true = eq-eqb x 0xFF (full 0 (omega arith)) in
    let rest : differing xs ≡ 0 = mask_from_full xs (λ k lt. full (suc k) (omega arith)) in
    rw (first, rest) refl

-- ---- two bytes of which all bits are set
both_full : (a b : ℕ) → a < 256 → b < 256 → bit_and a b ≡ 0xFF → (a ≡ 0xFF) × (b ≡ 0xFF)
both_full a b la lb e = (omega (arith, and_le_l a b), omega (arith, and_le_r a b))

byte_below : (xs : List ℕ) (k : ℕ) → k < length xs → Each1 (Fits w8) xs → get_or xs k 0 < 256
byte_below xs k lt h = Each1-get_or (λ (x : ℕ). x < 256) xs k 0 lt (below_from_Fits w8 xs h)

-- 32 cells are known where no bit of two chunks is 0, and nowhere else
pub known_chunk : (gs bs : List ℕ) → length gs ≡ 32 → length bs ≡ 32 → Each1 (Fits w8) gs → Each1 (Fits w8) bs
    → IsTrue (eqb (mask_l (map (top 7) (zip2 (λ (a b : ℕ). cond (not (eqb a b)) (2 ^ 8 - 1) 0) (zip2 bit_and gs bs)
    (replicate 32 0xFF))) % 2 ^ 64) 0) ↔ AreKnown gs bs 32
known_chunk gs bs lg lb fg fb =
    let both = zip2 bit_and gs bs in
    let len : length both ≡ 32 = length-zip2 bit_and gs bs (lg ∙ sym lb) ∙ lg in
    let mask = bitmask_splat w8 (λ (a b : ℕ). not (eqb a b)) both 32 0xFF len (omega arith) in (
      λ t k lt.
          both_full (get_or gs k 0) (get_or bs k 0) (byte_below gs k (omega arith) fg)
          (byte_below bs k (omega arith) fb)
          (sym (get_or-zip2 bit_and gs bs k 0 0 0 (omega arith) (omega arith))
          ∙ full_from_mask both (sym mask ∙ eqb-true _ _ t) k (omega arith)),
      λ known.
          eq-eqb _ _ (mask ∙ mask_from_full both (λ k lt.
          let at = known k (omega arith) in
          get_or-zip2 bit_and gs bs k 0 0 0 (omega arith) (omega arith)
          ∙ (ap (λ (x : ℕ). bit_and x (get_or bs k 0)) at.0 ∙ ap (λ (x : ℕ). bit_and 0xFF x) at.1))),
    )

-- ---- where a chunk stands
first_chunks_at : (n count i k : ℕ) (xs : List ℕ) (d : List ℕ) → i < count → k < n
    → get_or (get_or (first_chunks n count xs) i d) k 0 ≡ get_or xs (n * i + k) 0
first_chunks_at n zero i k xs d lt within = absurd (omega arith)
first_chunks_at n (suc count) zero k xs d lt within =
    let start : k ≡ n * 0 + k = omega arith in
    get_or-take n xs k 0 within ∙ ap (λ (j : ℕ). get_or xs j 0) start
first_chunks_at n (suc count) (suc i) k xs d lt within =
    let start : n + (n * i + k) ≡ n * suc i + k = omega arith in
    first_chunks_at n count i k (drop n xs) d (omega arith) within
    ∙ (get_or-drop n xs (n * i + k) 0 ∙ ap (λ (j : ℕ). get_or xs j 0) start)

-- a chunk is the 32 bytes of the plane from 32 * i on
pub record IsChunk (xs : List ℕ) (i : ℕ) (chunk : List ℕ) : Type 0 where
  pub same : (k : ℕ) → k < 32 → get_or chunk k 0 ≡ get_or xs (32 * i + k) 0

-- chunk i of all whole chunks is one
pub chunk_at : (xs : List ℕ) (chunks : List (List ℕ)) (i : ℕ) → chunks ≡ first_chunks 32 (length xs / 32) xs
    → i < length xs / 32 → IsChunk xs i (take 32 (get_or chunks i []))
chunk_at xs chunks i e lt = record {
  same =
      λ k within.
      get_or-take 32 (get_or chunks i []) k 0 within
      ∙ (ap (λ (cs : List (List ℕ)). get_or (get_or cs i []) k 0) e
      ∙ first_chunks_at 32 (length xs / 32) i k xs [] lt within);
}

-- one more chunk of known cells makes the front longer
pub known_more : (gs bs g b : List ℕ) (i : ℕ) → IsChunk gs i g → IsChunk bs i b → AreKnown gs bs (32 * i)
    → AreKnown g b 32 → AreKnown gs bs (32 * i + 32)
known_more gs bs g b i hg hb before chunk k lt = elim (cases_lt k (32 * i)) [
  | inl below ↦ before k below
  | inr above ↦
      let within : k - 32 * i < 32 = omega arith in
      let at : 32 * i + (k - 32 * i) ≡ k = omega arith in
      let known = chunk (k - 32 * i) within in (
        ap (λ (j : ℕ). get_or gs j 0) (sym at) ∙ (sym (hg.same (k - 32 * i) within) ∙ known.0),
        ap (λ (j : ℕ). get_or bs j 0) (sym at) ∙ (sym (hb.same (k - 32 * i) within) ∙ known.1),
      )
]

-- a chunk of a front of known cells is known
pub chunk_of_known : (gs bs g b : List ℕ) (i : ℕ) → IsChunk gs i g → IsChunk bs i b → AreKnown gs bs (32 * i + 32)
    → AreKnown g b 32
chunk_of_known gs bs g b i hg hb known k lt =
    let at = known (32 * i + k) (omega arith) in
    (hg.same k lt ∙ at.0, hb.same k lt ∙ at.1)
