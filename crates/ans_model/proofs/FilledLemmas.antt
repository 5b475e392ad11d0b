-- A list whose elements from one index up to another have become one element.
use Rattle.std.proofs.Common.{◌≡◌, ℕ, zero, suc, ◌+◌, ◌-◌, ◌<◌, ◌≤◌, refl, ap, ◌∙◌, arith, List, [], ◌∷◌, ◌++◌}
use Rattle.std.proofs.Common.{length, take, drop, set, replicate, Some, All}
use Rattle.std.specs.Prelude.{slice_get}
use Rattle.std.proofs.lemmas.List.{append-nil, length-take, length-drop, length-append, length-replicate}
use Rattle.std.proofs.lemmas.List.{take-append-drop}
use Rattle.std.proofs.lemmas.List.Elements.{All-append, All-take, All-drop, All-replicate}
use Rattle.ans_model.specs.Screen.Step.{filled}
use Rattle.ans_model.proofs.Slices.{slice_get-append_left, slice_get-append_right, slice_get-take, slice_get-drop}
use Rattle.ans_model.proofs.Slices.{slice_get-replicate}

module _ {A : Type 0} where
  length-range : (xs : List A) (i j : ℕ) (x : A) → i ≤ j → j ≤ length xs
      → length (take i xs ++ replicate (j - i) x) ≡ j
  length-range xs i j x h k = simp (length-append, length-take, length-replicate) (omega arith)

  -- filling leaves the length
  pub length-filled : (xs : List A) (i j : ℕ) (x : A) → i ≤ j → j ≤ length xs → length (filled xs i j x) ≡ length xs
  length-filled xs i j x h k = simp (length-append, length-take, length-replicate, length-drop) (omega arith)

  -- what holds of the elements and of the filling holds of the filled list
  pub All-filled : (P : A → Type 0) (xs : List A) (i j : ℕ) (x : A) → P x → All P xs → All P (filled xs i j x)
  All-filled P xs i j x h k =
      All-append P (take i xs ++ replicate (j - i) x) (drop j xs)
      (All-append P (take i xs) (replicate (j - i) x) (All-take P i xs k) (All-replicate P (j - i) x h))
      (All-drop P j xs k)

  -- filling leaves the elements before it
  pub filled_before : (xs : List A) (i j : ℕ) (x : A) (k : ℕ) → i ≤ j → j ≤ length xs → k < i
      → slice_get (filled xs i j x) k ≡ slice_get xs k
  filled_before xs i j x k h l lt =
      let whole : length (take i xs ++ replicate (j - i) x) ≡ j = length-range xs i j x h l in
      let front : length (take i xs) ≡ i = simp length-take (omega arith) in
      slice_get-append_left (take i xs ++ replicate (j - i) x) (drop j xs) k (omega (arith, whole))
      ∙ slice_get-append_left (take i xs) (replicate (j - i) x) k (omega (arith, front)) ∙ slice_get-take i xs k lt

  -- filling changes the elements in it
  pub filled_within : (xs : List A) (i j : ℕ) (x : A) (k : ℕ) → i ≤ k → k < j → j ≤ length xs
      → slice_get (filled xs i j x) k ≡ Some x
  filled_within xs i j x k h lt l =
      let whole : length (take i xs ++ replicate (j - i) x) ≡ j = length-range xs i j x (omega arith) l in
      let front : length (take i xs) ≡ i = simp length-take (omega arith) in
      let at_k : k ≡ length (take i xs) + (k - i) = omega (arith, front) in
      slice_get-append_left (take i xs ++ replicate (j - i) x) (drop j xs) k (omega (arith, whole))
      ∙ ap (λ (n : ℕ). slice_get (take i xs ++ replicate (j - i) x) n) at_k
      ∙ slice_get-append_right (take i xs) (replicate (j - i) x) (k - i)
      ∙ slice_get-replicate (j - i) x (k - i) (omega arith)

  -- filling leaves the elements after it
  pub filled_after : (xs : List A) (i j : ℕ) (x : A) (k : ℕ) → i ≤ j → j ≤ k → j ≤ length xs
      → slice_get (filled xs i j x) k ≡ slice_get xs k
  filled_after xs i j x k h le l =
      let whole : length (take i xs ++ replicate (j - i) x) ≡ j = length-range xs i j x h l in
      let at_k : k ≡ length (take i xs ++ replicate (j - i) x) + (k - j) = omega (arith, whole) in
      let back : j + (k - j) ≡ k = omega arith in
      ap (λ (n : ℕ). slice_get (filled xs i j x) n) at_k
      ∙ slice_get-append_right (take i xs ++ replicate (j - i) x) (drop j xs) (k - j)
      ∙ slice_get-drop j xs (k - j) ∙ ap (λ (n : ℕ). slice_get xs n) back

  -- where nothing is filled, the list stays
  pub filled_none : (xs : List A) (i : ℕ) (x : A) → filled xs i i x ≡ xs
  filled_none xs i x = let none : i - i ≡ 0 = omega arith in
      rw (none, append-nil (take i xs)) (take-append-drop i xs)

  -- filling goes on after the first element that is set
  pub filled_from_set : (xs : List A) (i j : ℕ) (x : A) → i < length xs → i < j
      → filled (set xs i x) (suc i) j x ≡ filled xs i j x
  filled_from_set [] i j x l h = absurd (omega arith)
  filled_from_set (y ∷ xs) i zero x l h = absurd (omega arith)
  filled_from_set (y ∷ xs) zero (suc j) x l h =
      let less : suc j - 1 ≡ j = omega arith in
      let all : suc j - 0 ≡ suc j = omega arith in
      rw (less, all) refl
  filled_from_set (y ∷ xs) (suc i) (suc j) x l h =
      let outer : suc j - suc (suc i) ≡ j - suc i = omega arith in
      let inner : suc j - suc i ≡ j - i = omega arith in
      rw (outer, inner) (ap (λ (zs : List A). y ∷ zs) (filled_from_set xs i j x (omega arith) (omega arith)))
