-- Plain bytes before the first byte that is none.
use Rattle.std.proofs.Common.{◌≡◌, ◌==◌, ℕ, ◌+◌, ◌-◌, ◌%◌, ◌^◌, ◌<◌, ◌≤◌, Bool, true, false, not}
use Rattle.std.proofs.Common.{List, [], ◌∷◌, length, map, take, drop, get_or, IsTrue, All, Fits, w8, inl, inr, ◌⊎◌}
use Rattle.std.proofs.Common.{refl, ap, ap₂, ◌∙◌, subst, arith}
use Rattle.std.specs.Simd.Lanes.{mask_l, top, Each1}
use Rattle.std.proofs.lemmas.Bool.{agree_below, agree_below_at, cases_lt, not-false, or_parts}
use Rattle.std.proofs.lemmas.List.{drop_all, drop_more, get_or-drop, get_or-take, length-map, length-take-le}
use Rattle.std.proofs.lemmas.Simd.{mask_l-mod}
use Rattle.ans_tokens.specs.Glyphs.{is_sign, is_stop}
use Rattle.ans_tokens.specs.Walk.{NoCodeBegins, begins_as_code, begins_plainly, is_foreign, is_plain}
use Rattle.ans_tokens.proofs.Runs.{plain_parts, rest_of}
use Rattle.ans_tokens.proofs.TextFront.{first_fewer, first_more}

-- ---- the mask of a vector
tops_are : (f : ℕ → ℕ) (p : ℕ → Bool) → agree_below (λ x. top 7 (f x)) p 256 ≡ true → (lanes : List ℕ)
    → Each1 (Fits w8) lanes → map (top 7) (map f lanes) ≡ map p lanes
tops_are f p same [] fits = refl
tops_are f p same (x ∷ xs) fits =
    ap₂ (λ (a : Bool) (b : List Bool). a ∷ b) (agree_below_at (λ y. top 7 (f y)) p 256 x same fits.0.fits)
    (tops_are f p same xs fits.1)

-- a mask that is computed from bytes lane by lane, where it was tried with each byte
pub mask_is : (f : ℕ → ℕ) (p : ℕ → Bool) (lanes mask : List ℕ) → length lanes ≤ 64 → Each1 (Fits w8) lanes
    → mask ≡ map f lanes → agree_below (λ x. top 7 (f x)) p 256 ≡ true
    → mask_l (map (top 7) mask) % 2 ^ 64 ≡ mask_l (map p lanes)
mask_is f p lanes mask few fits computed same =
    ap (λ (bits : List Bool). mask_l bits % 2 ^ 64)
    (ap (map (top 7)) computed ∙ tops_are f p same lanes fits)
    ∙ mask_l-mod (map p lanes) 64 (omega (arith, few, length-map lanes p))

-- ---- plain bytes
-- a byte at which no run ends
not_stop : (b : ℕ) → is_stop b ≡ false → IsTrue (is_plain b) × (is_sign b ≡ false)
not_stop b none =
    let parts = or_parts (not (is_plain b)) (is_sign b) none in
    (not-false (is_plain b) parts.0, parts.1)

-- bytes that begin with no sign do not begin as a code
no_sign : (bytes : List ℕ) → is_sign (get_or bytes 0 0) ≡ false → begins_as_code bytes ≡ false
no_sign bytes none =
    let parts = or_parts (get_or bytes 0 0 == 0x40) (get_or bytes 0 0 == 0x7C) none in
    rw (parts.0, parts.1) refl

-- the first bytes are plain, no code begins at them, and a byte stands behind them
pub record IsPlainFront (bytes : List ℕ) (count : ℕ) : Type 0 where
  pub within : count < length bytes
  pub plain : All (λ byte. IsTrue (is_plain byte)) (take count bytes)
  pub codes : NoCodeBegins count bytes

-- with n more at which no run ends
pub plain_more : (bytes : List ℕ) (count n : ℕ) → count + n < length bytes → IsPlainFront bytes count
    → ((k : ℕ) → count ≤ k → k < count + n → is_stop (get_or bytes k 0) ≡ false)
    → IsPlainFront bytes (count + n)
plain_more bytes count n room before none = record {
  within = room;
  plain = first_more (λ byte. IsTrue (is_plain byte)) bytes count n (omega (arith, room)) before.plain
      (λ k from below. (not_stop (get_or bytes k 0) (none k from below)).0);
  codes = λ k early. at k early (cases_lt k count);
}
  where
    at : (k : ℕ) → k < count + n → (k < count) ⊎ (count ≤ k) → begins_as_code (drop k bytes) ≡ false
    at k early (inl first) = before.codes k first
    at k early (inr from) =
        let here : get_or (drop k bytes) 0 0 ≡ get_or bytes k 0 =
        get_or-drop k bytes 0 0 ∙ ap (λ (i : ℕ). get_or bytes i 0) (omega arith) in
        no_sign (drop k bytes) (ap is_sign here ∙ (not_stop (get_or bytes k 0) (none k from early)).1)

-- with one plain byte more, at which no code begins
pub plain_sign : (bytes : List ℕ) (count : ℕ) → count + 1 < length bytes → IsPlainFront bytes count
    → IsTrue (is_plain (get_or (take (length bytes - count) (drop count bytes)) 0 0))
    → begins_as_code (take (length bytes - count) (drop count bytes)) ≡ false
    → IsPlainFront bytes (count + 1)
plain_sign bytes count room before plain code = record {
  within = room;
  plain = first_more (λ byte. IsTrue (is_plain byte)) bytes count 1 (omega (arith, room)) before.plain
      (λ k from below.
      let here : get_or (drop count bytes) 0 0 ≡ get_or bytes k 0 =
      get_or-drop count bytes 0 0 ∙ ap (λ (i : ℕ). get_or bytes i 0) (omega (arith, from, below)) in
      subst (λ (b : ℕ). IsTrue (is_plain b)) here
      (subst (λ (v : List ℕ). IsTrue (is_plain (get_or v 0 0))) (rest_of bytes count) plain));
  codes = λ k early. at k early (cases_lt k count);
}
  where
    at : (k : ℕ) → k < count + 1 → (k < count) ⊎ (count ≤ k) → begins_as_code (drop k bytes) ≡ false
    at k early (inl first) = before.codes k first
    at k early (inr from) =
        let here : count ≡ k = omega (arith, from, early) in
        subst (λ (i : ℕ). begins_as_code (drop i bytes) ≡ false) here
        (subst (λ (v : List ℕ). begins_as_code v ≡ false) (rest_of bytes count) code)

-- fewer of them
pub plain_fewer : (bytes : List ℕ) (n count : ℕ) → n ≤ count → IsPlainFront bytes count → IsPlainFront bytes n
plain_fewer bytes n count fewer h = record {
  within = omega (arith, fewer, h.within);
  plain = first_fewer (λ byte. IsTrue (is_plain byte)) bytes n count fewer h.plain;
  codes = λ k early. h.codes k (omega (arith, early, fewer));
}

-- from the length on they begin so, and before it where the byte there is not foreign
plainly_at : (bytes : List ℕ) (n : ℕ) → (n < length bytes → IsTrue (not (is_foreign (get_or bytes n 0))))
    → IsTrue (begins_plainly (drop n bytes))
plainly_at bytes n there = elim (cases_lt n (length bytes)) [
  | inl before ↦ rw (drop_more bytes n 0 before) (there before)
  | inr past ↦ rw (drop_all n bytes past) refl
]

-- what begins with the last of plain bytes begins so
pub last_plainly : (bytes : List ℕ) (count : ℕ) → count ≤ length bytes
    → All (λ byte. IsTrue (is_plain byte)) (take count bytes) → 0 < count
    → IsTrue (begins_plainly (drop (count - 1) bytes))
last_plainly bytes count room plain some =
    plainly_at bytes (count - 1) (λ before.
    let last : get_or (take count bytes) (count - 1) 0 ≡ get_or bytes (count - 1) 0 =
    get_or-take count bytes (count - 1) 0 (omega (arith, some)) in
    subst (λ (b : ℕ). IsTrue (not (is_foreign b))) last
    (plain_parts (get_or (take count bytes) (count - 1) 0) (plain (count - 1) 0 (omega (arith, some, length-take-le count bytes room)))).1)
