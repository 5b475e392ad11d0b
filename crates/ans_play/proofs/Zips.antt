-- A relation of two lists, place by place, through the edits of a screen.
use Rattle.std.specs.List.{AllZip}
use Rattle.std.proofs.Common.{◌≡◌, ℕ, zero, suc, List, [], ◌∷◌, ◌++◌, take, drop, set, replicate, length, refl, ap}
use Rattle.ans_model.specs.Screen.Step.{filled}
use Rattle.std.specs.Prelude.{◌-◌}

module _ {A B : Type 0} (R : A → B → Type 0) where
  pub AllZip-append : (xs : List A) (ys : List B) (us : List A) (vs : List B) → AllZip R xs ys → AllZip R us vs →
      AllZip R (xs ++ us) (ys ++ vs)
  AllZip-append [] [] us vs h k = k
  AllZip-append [] (y ∷ ys) us vs h k = absurd h
  AllZip-append (x ∷ xs) [] us vs h k = absurd h
  AllZip-append (x ∷ xs) (y ∷ ys) us vs h k = (h.0, AllZip-append xs ys us vs h.1 k)

  pub AllZip-take : (n : ℕ) (xs : List A) (ys : List B) → AllZip R xs ys → AllZip R (take n xs) (take n ys)
  AllZip-take zero xs ys h = tt
  AllZip-take (suc n) [] [] h = tt
  AllZip-take (suc n) [] (y ∷ ys) h = absurd h
  AllZip-take (suc n) (x ∷ xs) [] h = absurd h
  AllZip-take (suc n) (x ∷ xs) (y ∷ ys) h = (h.0, AllZip-take n xs ys h.1)

  pub AllZip-drop : (n : ℕ) (xs : List A) (ys : List B) → AllZip R xs ys → AllZip R (drop n xs) (drop n ys)
  AllZip-drop zero xs ys h = h
  AllZip-drop (suc n) [] [] h = tt
  AllZip-drop (suc n) [] (y ∷ ys) h = absurd h
  AllZip-drop (suc n) (x ∷ xs) [] h = absurd h
  AllZip-drop (suc n) (x ∷ xs) (y ∷ ys) h = AllZip-drop n xs ys h.1

  pub AllZip-replicate : (n : ℕ) (x : A) (y : B) → R x y → AllZip R (replicate n x) (replicate n y)
  AllZip-replicate zero x y h = tt
  AllZip-replicate (suc n) x y h = (h, AllZip-replicate n x y h)

  pub AllZip-set : (xs : List A) (ys : List B) (i : ℕ) (x : A) (y : B) → AllZip R xs ys → R x y →
      AllZip R (set xs i x) (set ys i y)
  AllZip-set [] [] i x y h k = tt
  AllZip-set [] (b ∷ ys) i x y h k = absurd h
  AllZip-set (a ∷ xs) [] i x y h k = absurd h
  AllZip-set (a ∷ xs) (b ∷ ys) zero x y h k = (k, h.1)
  AllZip-set (a ∷ xs) (b ∷ ys) (suc i) x y h k = (h.0, AllZip-set xs ys i x y h.1 k)

  pub AllZip-filled : (xs : List A) (ys : List B) (i j : ℕ) (x : A) (y : B) → AllZip R xs ys → R x y →
      AllZip R (filled xs i j x) (filled ys i j y)
  AllZip-filled xs ys i j x y h k =
      AllZip-append _ _ _ _
      (AllZip-append _ _ _ _ (AllZip-take i xs ys h) (AllZip-replicate (j - i) x y k))
      (AllZip-drop j xs ys h)

  pub AllZip-length : (xs : List A) (ys : List B) → AllZip R xs ys → length xs ≡ length ys
  AllZip-length [] [] h = refl
  AllZip-length [] (y ∷ ys) h = absurd h
  AllZip-length (x ∷ xs) [] h = absurd h
  AllZip-length (x ∷ xs) (y ∷ ys) h = ap (λ (n : ℕ). suc n) (AllZip-length xs ys h.1)
