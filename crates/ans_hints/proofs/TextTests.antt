-- What the tests of texts say.
use Rattle.std.proofs.Common.{◌≡◌, ℕ, suc, ◌+◌, ◌-◌, ◌≤◌, min, Bool, true, false, List, ◌∷◌, ◌++◌, length, take, refl}
use Rattle.std.proofs.Common.{sym, ap, ◌∙◌, arith, Result, Ok, Err}
use Rattle.std.proofs.lemmas.List.{length-take-le, take_at, take_min}
use Rattle.std.specs.Prelude.{MatchResult, is_ok}
use Rattle.std.specs.Str.{IsUtf8, is_utf8}
use Rattle.std.proofs.lemmas.Str.{IsUtf8-from_is_utf8, is_utf8-from_IsUtf8}

not_so : (b : Bool) → (b ≡ true → ⊥) → false ≡ b
not_so true h = absurd (h refl)
not_so false h = refl

-- a text is made of the bytes exactly where they are UTF-8
pub told_by_text : {A E : Type 0} (bytes : List ℕ) (P : A → Type 0) (Q : E → Type 0) (r : Result A E)
    → MatchResult r (λ s. P s × IsUtf8 bytes) (λ e. ¬ (IsUtf8 bytes) × Q e) → is_ok r ≡ is_utf8 bytes
told_by_text bytes P Q (Ok s) h = sym (is_utf8-from_IsUtf8 bytes h.1)
told_by_text bytes P Q (Err e) h = not_so (is_utf8 bytes) (λ yes. h.0 (IsUtf8-from_is_utf8 bytes yes))

-- a first byte, and so many of the others
pub front_copied : (first count more : ℕ) (rest copied z : List ℕ) → 1 ≤ count → more ≡ min (count - 1) (length rest)
    → copied ≡ take more rest → take (1 + more) (first ∷ (copied ++ z)) ≡ take count (first ∷ rest)
front_copied first count more rest copied z some size is_copy =
    let one : 1 + more ≡ suc more = omega arith in
    let another : count ≡ suc (count - 1) = omega arith in
    let long : length copied ≡ more =
    ap length is_copy ∙ length-take-le more rest (omega (arith, size)) in
    let taken : take more (copied ++ z) ≡ take (count - 1) rest =
    take_at copied z more long ∙ is_copy ∙ ap (λ (n : ℕ). take n rest) size ∙ take_min (count - 1) rest in
    ap (λ (n : ℕ). take n (first ∷ (copied ++ z))) one ∙ ap (λ (xs : List ℕ). first ∷ xs) taken
    ∙ sym (ap (λ (n : ℕ). take n (first ∷ rest)) another)
