-- The element at an index of a list, through the edits of a screen.
use Rattle.std.proofs.Common.{◌≡◌, ◌≢◌, ℕ, zero, suc, ◌+◌, ◌<◌, List, [], ◌∷◌, ◌++◌, length, take, drop}
use Rattle.std.proofs.Common.{set, replicate, refl, ap, ◌∙◌, Some, arith}
use Rattle.std.specs.Prelude.{slice_get}

module _ {A : Type 0} where
  pub slice_get-append_left : (xs ys : List A) (k : ℕ) → k < length xs → slice_get (xs ++ ys) k ≡ slice_get xs k
  slice_get-append_left [] ys k h = absurd (omega arith)
  slice_get-append_left (x ∷ xs) ys zero h = refl
  slice_get-append_left (x ∷ xs) ys (suc k) h = slice_get-append_left xs ys k (omega arith)

  pub slice_get-append_right : (xs ys : List A) (k : ℕ) → slice_get (xs ++ ys) (length xs + k) ≡ slice_get ys k
  slice_get-append_right [] ys k = ap (λ (n : ℕ). slice_get ys n) (omega arith)
  slice_get-append_right (x ∷ xs) ys k =
      let step : length (x ∷ xs) + k ≡ suc (length xs + k) = omega arith in
      ap (λ (n : ℕ). slice_get (x ∷ (xs ++ ys)) n) step ∙ slice_get-append_right xs ys k

  pub slice_get-set_same : (xs : List A) (k : ℕ) (x : A) → k < length xs → slice_get (set xs k x) k ≡ Some x
  slice_get-set_same [] k x h = absurd (omega arith)
  slice_get-set_same (y ∷ xs) zero x h = refl
  slice_get-set_same (y ∷ xs) (suc k) x h = slice_get-set_same xs k x (omega arith)

  pub slice_get-set_other : (xs : List A) (i k : ℕ) (x : A) → k ≢ i → slice_get (set xs i x) k ≡ slice_get xs k
  slice_get-set_other [] i k x h = refl
  slice_get-set_other (y ∷ xs) zero zero x h = absurd (h refl)
  slice_get-set_other (y ∷ xs) zero (suc k) x h = refl
  slice_get-set_other (y ∷ xs) (suc i) zero x h = refl
  slice_get-set_other (y ∷ xs) (suc i) (suc k) x h = slice_get-set_other xs i k x (λ e. h (ap (λ (n : ℕ). suc n) e))

  pub slice_get-take : (n : ℕ) (xs : List A) (k : ℕ) → k < n → slice_get (take n xs) k ≡ slice_get xs k
  slice_get-take zero xs k h = absurd (omega arith)
  slice_get-take (suc n) [] k h = refl
  slice_get-take (suc n) (x ∷ xs) zero h = refl
  slice_get-take (suc n) (x ∷ xs) (suc k) h = slice_get-take n xs k (omega arith)

  pub slice_get-drop : (n : ℕ) (xs : List A) (k : ℕ) → slice_get (drop n xs) k ≡ slice_get xs (n + k)
  slice_get-drop zero xs k = ap (λ (n : ℕ). slice_get xs n) (omega arith)
  slice_get-drop (suc n) [] k = refl
  slice_get-drop (suc n) (x ∷ xs) k =
      let step : suc (n + k) ≡ suc n + k = omega arith in
      slice_get-drop n xs k ∙ ap (λ (m : ℕ). slice_get (x ∷ xs) m) step

  pub slice_get-replicate : (n : ℕ) (x : A) (k : ℕ) → k < n → slice_get (replicate n x) k ≡ Some x
  slice_get-replicate zero x k h = absurd (omega arith)
  slice_get-replicate (suc n) x zero h = refl
  slice_get-replicate (suc n) x (suc k) h = slice_get-replicate n x k (omega arith)
