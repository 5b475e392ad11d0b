-- Two screens taken together cell by cell, through the edits of a screen.
use Rattle.std.proofs.Common.{◌≡◌, ℕ, zero, suc, ◌-◌, refl, ap, arith, List, [], ◌∷◌, ◌++◌, length, take, drop, set}
use Rattle.std.proofs.Common.{replicate, map, zip}
use Rattle.std.proofs.lemmas.List.{length-take, length-replicate, length-append}
use Rattle.ans_model.specs.Screen.Step.{filled}

module _ {A B C : Type 0} (f : A → B → C) where
  -- the two cells at each place, taken together
  abbrev pub paired : List A → List B → List C
  paired xs ys = map (λ (a, b). f a b) (zip xs ys)

  paired-append : (xs : List A) (ys : List B) (us : List A) (vs : List B) → length xs ≡ length ys →
      paired (xs ++ us) (ys ++ vs) ≡ paired xs ys ++ paired us vs
  paired-append [] [] us vs e = refl
  paired-append [] (y ∷ ys) us vs e = absurd (omega arith)
  paired-append (x ∷ xs) [] us vs e = absurd (omega arith)
  paired-append (x ∷ xs) (y ∷ ys) us vs e =
      ap (λ (zs : List C). f x y ∷ zs) (paired-append xs ys us vs (omega arith))

  paired-take : (n : ℕ) (xs : List A) (ys : List B) → paired (take n xs) (take n ys) ≡ take n (paired xs ys)
  paired-take zero xs ys = refl
  paired-take (suc n) [] ys = refl
  paired-take (suc n) (x ∷ xs) [] = refl
  paired-take (suc n) (x ∷ xs) (y ∷ ys) = ap (λ (zs : List C). f x y ∷ zs) (paired-take n xs ys)

  paired-nil : (xs : List A) → paired xs [] ≡ []
  paired-nil [] = refl
  paired-nil (x ∷ xs) = refl

  paired-drop : (n : ℕ) (xs : List A) (ys : List B) → paired (drop n xs) (drop n ys) ≡ drop n (paired xs ys)
  paired-drop zero xs ys = refl
  paired-drop (suc n) [] ys = refl
  paired-drop (suc n) (x ∷ xs) [] = paired-nil (drop n xs)
  paired-drop (suc n) (x ∷ xs) (y ∷ ys) = paired-drop n xs ys

  -- two screens of one cell each are a screen of one cell
  pub paired-replicate : (n : ℕ) (x : A) (y : B) → paired (replicate n x) (replicate n y) ≡ replicate n (f x y)
  paired-replicate zero x y = refl
  paired-replicate (suc n) x y = ap (λ (zs : List C). f x y ∷ zs) (paired-replicate n x y)

  -- one cell set in both is one cell set
  pub paired-set : (xs : List A) (ys : List B) (i : ℕ) (x : A) (y : B) →
      paired (set xs i x) (set ys i y) ≡ set (paired xs ys) i (f x y)
  paired-set [] ys i x y = refl
  paired-set (a ∷ xs) [] zero x y = refl
  paired-set (a ∷ xs) [] (suc i) x y = refl
  paired-set (a ∷ xs) (b ∷ ys) zero x y = refl
  paired-set (a ∷ xs) (b ∷ ys) (suc i) x y = ap (λ (zs : List C). f a b ∷ zs) (paired-set xs ys i x y)

  -- cells filled in both are cells filled
  pub paired-filled : (xs : List A) (ys : List B) (i j : ℕ) (x : A) (y : B) → length xs ≡ length ys →
      paired (filled xs i j x) (filled ys i j y) ≡ filled (paired xs ys) i j (f x y)
  paired-filled xs ys i j x y e =
      let same : length (take i xs) ≡ length (take i ys) = simp length-take (rw e) in
      rw (
        paired-append (take i xs ++ replicate (j - i) x) (take i ys ++ replicate (j - i) y) (drop j xs) (drop j ys)
            (simp (length-append, length-replicate) (rw same)),
        paired-append (take i xs) (take i ys) (replicate (j - i) x) (replicate (j - i) y) same,
        paired-take i xs ys,
        paired-replicate (j - i) x y,
        paired-drop j xs ys,
      )
