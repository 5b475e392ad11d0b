-- Numbers up to the last 0.
use Rattle.std.proofs.Common.{◌≡◌, ◌≢◌, ℕ, ◌+◌, ◌-◌, ◌<◌, ◌≤◌, Bool, true, false, List, [], ◌∷◌, ◌++◌, length}
use Rattle.std.proofs.Common.{get_or, refl}
use Rattle.std.proofs.Common.{ap, sym, ◌∙◌, arith, take}
use Rattle.std.specs.Prelude.{◌||◌, ◌==◌}
use Rattle.std.proofs.lemmas.Bool.Decides.{nat_tests}
use Rattle.std.proofs.lemmas.List.{length-take-le, take_more}
use Rattle.std.specs.List.{list_any}
use Rattle.ans_mend.specs.NamedColours.{count_to_zero, is_zero}

or_true : (b : Bool) → (b || true) ≡ true
or_true true = refl
or_true false = refl

any_last : (xs : List ℕ) (n : ℕ) → (n == 0) ≡ true → list_any is_zero (xs ++ n ∷ []) ≡ true
any_last [] n is = rw is refl
any_last (x ∷ xs) n is = rw (any_last xs n is) (or_true (x == 0))

any_other : (xs : List ℕ) (n : ℕ) → (n == 0) ≡ false → list_any is_zero (xs ++ n ∷ []) ≡ list_any is_zero xs
any_other [] n is = rw is refl
any_other (x ∷ xs) n is = rw (any_other xs n is) refl

pub ends_in_zero : (xs : List ℕ) (n : ℕ) → (n == 0) ≡ true → count_to_zero (xs ++ n ∷ []) ≡ length xs + 1
ends_in_zero [] n is = rw is refl
ends_in_zero (x ∷ xs) n is = rw (any_last xs n is, or_true (x == 0), ends_in_zero xs n is) (omega arith)

pub ends_in_other : (xs : List ℕ) (n : ℕ) → (n == 0) ≡ false → count_to_zero (xs ++ n ∷ []) ≡ count_to_zero xs
ends_in_other [] n is = rw is refl
ends_in_other (x ∷ xs) n is = rw (any_other xs n is, ends_in_other xs n is) refl

-- the same of the first numbers of a list
pub zero_before : (xs : List ℕ) (n : ℕ) → 0 < n → n ≤ length xs → get_or xs (n - 1) 0 ≡ 0
    → count_to_zero (take n xs) ≡ n
zero_before xs n some within is =
    let sum : n ≡ (n - 1) + 1 = omega (arith, some) in
    let last : (get_or xs (n - 1) 0 == 0) ≡ true = rw is refl in
    ap (λ (v : ℕ). count_to_zero (take v xs)) sum
    ∙ ap count_to_zero (take_more xs (n - 1) 0 (omega (arith, some, within)))
    ∙ ends_in_zero (take (n - 1) xs) (get_or xs (n - 1) 0) last
    ∙ omega (arith, some, length-take-le (n - 1) xs (omega (arith, within)))

pub other_before : (xs : List ℕ) (n : ℕ) → 0 < n → n ≤ length xs → get_or xs (n - 1) 0 ≢ 0
    → count_to_zero (take (n - 1) xs) ≡ count_to_zero (take n xs)
other_before xs n some within other =
    let sum : n ≡ (n - 1) + 1 = omega (arith, some) in
    let last : (get_or xs (n - 1) 0 == 0) ≡ false = grind (arith, nat_tests, other) in
    sym (ap (λ (v : ℕ). count_to_zero (take v xs)) sum
    ∙ ap count_to_zero (take_more xs (n - 1) 0 (omega (arith, some, within)))
    ∙ ends_in_other (take (n - 1) xs) (get_or xs (n - 1) 0) last)
