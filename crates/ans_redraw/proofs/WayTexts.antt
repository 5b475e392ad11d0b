-- The texts of the way over blanks, as they are written.
use Rattle.std.proofs.Common.{◌&&◌, ◌≡◌, ℕ, zero, suc, ◌+◌, ◌*◌, ◌/◌, ◌%◌, ◌<◌, ◌≤◌, Bool, true, false}
use Rattle.std.proofs.Common.{refl, ap, ap₂, sym, ◌∙◌, arith, List, [], ◌∷◌, ◌++◌, take, replicate, codes}
use Rattle.std.proofs.Common.{append_assoc, append-nil}
use Rattle.std.specs.Prelude.{decimal, nat_le, ◌||◌, ◌==◌, if◌then◌else◌}
use Rattle.std.specs.Fmt.{digits}
use Rattle.std.specs.Str.{bytes_eq}
use Rattle.std.proofs.Math.Nat.{div-add-mod}
use Rattle.std.proofs.lemmas.Bool.{agree_below_at}
use Rattle.std.proofs.lemmas.Bool.Decides.{nat_tests}
use Rattle.std.proofs.lemmas.List.{replicate-append-replicate}
use Rattle.std.proofs.lemmas.Slice.Eq.{bytes_eq-Decides}
use Rattle.ans_model.specs.Bytes.{blank, escape}
use Rattle.ans_players.specs.Situations.{Spelled}
use Rattle.ans_redraw.specs.Form.{glyph, skip, over, over_few, texts}

-- ---- digits
pub ones : (n : ℕ) → n < 10 → (0x30 + n % 10) ∷ [] ≡ decimal n
unfolding digits
ones n lt =
    sym ((bytes_eq-Decides (decimal n) ((0x30 + n % 10) ∷ [])).0
    (agree_below_at (λ n. bytes_eq (decimal n) ((0x30 + n % 10) ∷ [])) (λ n. true) 10 n refl lt))

pub tens : (n : ℕ) → 10 ≤ n → n < 100 → (0x30 + n / 10 % 10) ∷ (0x30 + n % 10) ∷ [] ≡ decimal n
unfolding digits
tens n ge lt =
    let text : ℕ → List ℕ = λ m. (0x30 + m / 10 % 10) ∷ (0x30 + m % 10) ∷ [] in
    let test : ℕ → Bool = λ m. nat_le m 9 || bytes_eq (decimal m) (text m) in
    let all : test n ≡ true = agree_below_at test (λ n. true) 100 n refl lt in
    let more : nat_le n 9 ≡ false = grind (arith, nat_tests) in
    sym ((bytes_eq-Decides (decimal n) (text n)).0 (rw more at all))

pub hundreds : (n : ℕ) → 100 ≤ n → n < 256
    → (0x30 + n / 100) ∷ (0x30 + n / 10 % 10) ∷ (0x30 + n % 10) ∷ [] ≡ decimal n
unfolding digits
hundreds n ge lt =
    let text : ℕ → List ℕ = λ m. (0x30 + m / 100) ∷ (0x30 + m / 10 % 10) ∷ (0x30 + m % 10) ∷ [] in
    let test : ℕ → Bool = λ m. nat_le m 99 || bytes_eq (decimal m) (text m) in
    let all : test n ≡ true = agree_below_at test (λ n. true) 256 n refl lt in
    let more : nat_le n 99 ≡ false = grind (arith, nat_tests) in
    sym ((bytes_eq-Decides (decimal n) (text n)).0 (rw more at all))

-- ---- spelled tokens, one after the other
pub texts_both : (xs ys : List Spelled) → texts (xs ++ ys) ≡ texts xs ++ texts ys
texts_both [] ys = refl
texts_both (x ∷ xs) ys =
    ap (λ (v : List ℕ). x.text ++ v) (texts_both xs ys) ∙ sym (append_assoc x.text (texts xs) (texts ys))

-- one copy more
pub one_more : (n : ℕ) (x : Spelled) → texts (replicate (n + 1) x) ≡ texts (replicate n x) ++ x.text
one_more n x =
    ap texts (sym (replicate-append-replicate n 1 x)) ∙ texts_both (replicate n x) (x ∷ [])
    ∙ ap (λ (v : List ℕ). texts (replicate n x) ++ v) (append-nil x.text)

-- ---- blanks
pub most_skipped : (skip 255).text ≡ escape ∷ codes "[255C"
unfolding digits
most_skipped = refl

pub blanks_printed : (n : ℕ) → n ≤ 4 → take n (blank ∷ blank ∷ blank ∷ blank ∷ []) ≡ texts (replicate n (glyph blank))
blanks_printed zero h = refl
blanks_printed (suc zero) h = refl
blanks_printed (suc (suc zero)) h = refl
blanks_printed (suc (suc (suc zero))) h = refl
blanks_printed (suc (suc (suc (suc zero)))) h = refl
blanks_printed (suc (suc (suc (suc (suc n))))) h = absurd (omega arith)

pub few_printed : (attribute n : ℕ) → attribute ≡ 0x07 → n ≤ 4
    → take n (blank ∷ blank ∷ blank ∷ blank ∷ []) ≡ texts (over_few attribute n)
few_printed attribute n grey few =
    let short : nat_le n 4 ≡ true = grind (arith, nat_tests) in
    let printed : over_few attribute n ≡ replicate n (glyph blank) = rw (grey, short) refl in
    blanks_printed n few ∙ ap texts (sym printed)

-- up to four are few
pub near_printed : (attribute n : ℕ) → attribute ≡ 0x07 → n ≤ 4
    → take n (blank ∷ blank ∷ blank ∷ blank ∷ []) ≡ texts (over attribute n)
near_printed attribute n grey few =
    let none : n / 255 ≡ 0 = omega arith in
    let all : n % 255 ≡ n = omega arith in
    few_printed attribute n grey few
    ∙ ap₂ (λ (k m : ℕ). texts (replicate k (skip 255) ++ over_few attribute m)) (sym none) (sym all)

-- whole skips, and what is left
pub over_texts : (attribute n : ℕ)
    → texts (replicate (n / 255) (skip 255)) ++ texts (over_few attribute (n % 255)) ≡ texts (over attribute n)
over_texts attribute n = sym (texts_both (replicate (n / 255) (skip 255)) (over_few attribute (n % 255)))

pub skips_and_few : (n : ℕ) → n / 255 + n % 255 ≤ n
skips_and_few n = let sum : 255 * (n / 255) + n % 255 ≡ n = div-add-mod n 255 in omega arith

-- ---- a cell
pub cell_texts : (way sequence : List Spelled) (byte : ℕ)
    → (texts way ++ texts sequence) ++ byte ∷ [] ≡ texts (way ++ (sequence ++ glyph byte ∷ []))
cell_texts way sequence byte =
    append_assoc (texts way) (texts sequence) (byte ∷ [])
    ∙ ap (λ (v : List ℕ). texts way ++ v) (sym (texts_both sequence (glyph byte ∷ [])))
    ∙ sym (texts_both way (sequence ++ glyph byte ∷ []))

-- no way over nothing
pub nothing_over : (attribute n : ℕ) → n ≡ 0 → [] ≡ texts (over attribute n)
nothing_over attribute n none = rw none (by_test (attribute == 0x07))
  where
    by_test : (t : Bool) → [] ≡ texts (if t && true then [] else [])
    by_test true = refl
    by_test false = refl
