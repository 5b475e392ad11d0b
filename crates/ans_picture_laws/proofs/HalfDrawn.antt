-- A screen on which the cells of a picture are drawn up to one of them, and which is blank from there on.
use Rattle.std.proofs.Common.{◌≡◌, ℕ, zero, suc, ◌+◌, ◌-◌, ◌<◌, ◌≤◌, refl, ap, sym, ◌∙◌, arith, List, [], ◌∷◌, ◌++◌}
use Rattle.std.proofs.Common.{length, take, drop, set, replicate, append_assoc, subst}
use Rattle.std.proofs.Math.Seq.{set-append_seam}
use Rattle.ans_model.specs.declared.cell.Cell.{Cell}
use Rattle.ans_model.specs.Screen.State.{Size, cell_count}
use Rattle.ans_model.specs.Screen.Step.{blank_cell}

-- the first k cells, and blanks
abbrev pub half : Size → List Cell → ℕ → List Cell
half z cells k = take k cells ++ replicate (cell_count z - k) (blank_cell 0x07)

-- one cell further in a list
pub record IsNext {A : Type 0} (k : ℕ) (xs : List A) (x : A) (rest : List A) : Type 0 where
  pub taken : take (suc k) xs ≡ take k xs ++ x ∷ []
  pub left : drop (suc k) xs ≡ rest
  pub within : length (take k xs) ≡ k

pub next_is : {A : Type 0} (k : ℕ) (xs : List A) (x : A) (rest : List A) → drop k xs ≡ x ∷ rest → IsNext k xs x rest
next_is zero [] x rest e = absurd (let no : ⊥ = cc in no)
next_is zero (y ∷ ys) x rest e =
    let same : y ≡ x = cc in
    let more : ys ≡ rest = cc in
    record { taken = ap (λ v. v ∷ []) same; left = more; within = refl }
next_is (suc k) [] x rest e = absurd (let no : ⊥ = cc in no)
next_is {A} (suc k) (y ∷ ys) x rest e =
    let n = next_is k ys x rest e in
    record {
      taken = ap (λ (v : List A). y ∷ v) n.taken;
      left = n.left;
      within = ap suc n.within;
    }

module _ (z : Size) (cells : List Cell) where
  -- the next cell is printed
  pub half_printed : (k : ℕ) (c : Cell) (rest : List Cell) → drop k cells ≡ c ∷ rest → k < cell_count z
      → set (half z cells k) k c ≡ half z cells (suc k)
  half_printed k c rest e lt =
      let n = next_is k cells c rest e in
      let m : ℕ = cell_count z - suc k in
      let one_more : cell_count z - k ≡ suc m = omega arith in
      let front : List Cell = take k cells in
      ap (λ (j : ℕ). set (front ++ replicate j (blank_cell 0x07)) k c) one_more
      ∙ ap (λ (j : ℕ). set (front ++ replicate (suc m) (blank_cell 0x07)) j c) (sym n.within)
      ∙ set-append_seam front (blank_cell 0x07) (replicate m (blank_cell 0x07)) c
      ∙ sym (append_assoc front (c ∷ []) (replicate m (blank_cell 0x07)))
      ∙ ap (λ (v : List Cell). v ++ replicate m (blank_cell 0x07)) (sym n.taken)

  -- a blank is there already
  blank_is_there : (k : ℕ) (rest : List Cell) → drop k cells ≡ blank_cell 0x07 ∷ rest → k < cell_count z
      → half z cells k ≡ half z cells (suc k)
  blank_is_there k rest e lt =
      let n = next_is k cells (blank_cell 0x07) rest e in
      let m : ℕ = cell_count z - suc k in
      let one_more : cell_count z - k ≡ suc m = omega arith in
      let front : List Cell = take k cells in
      ap (λ (j : ℕ). front ++ replicate j (blank_cell 0x07)) one_more
      ∙ sym (append_assoc front (blank_cell 0x07 ∷ []) (replicate m (blank_cell 0x07)))
      ∙ ap (λ (v : List Cell). v ++ replicate m (blank_cell 0x07)) (sym n.taken)

  -- and so are several
  pub record AreThere (k n : ℕ) (rest : List Cell) : Type 0 where
    pub same : half z cells k ≡ half z cells (k + n)
    pub left : drop (k + n) cells ≡ rest

  pub blanks_are_there : (n k : ℕ) (rest : List Cell) → drop k cells ≡ replicate n (blank_cell 0x07) ++ rest
      → k + n ≤ cell_count z → AreThere k n rest
  blanks_are_there zero k rest e le =
      let none : k ≡ k + 0 = omega arith in
      record {
        same = ap (λ (j : ℕ). half z cells j) none;
        left = subst (λ (j : ℕ). drop j cells ≡ rest) none e;
      }
  blanks_are_there (suc n) k rest e le =
      let one = next_is k cells (blank_cell 0x07) (replicate n (blank_cell 0x07) ++ rest) e in
      let more = blanks_are_there n (suc k) rest one.left (omega arith) in
      let sum : suc k + n ≡ k + suc n = omega arith in
      record {
        same = blank_is_there k (replicate n (blank_cell 0x07) ++ rest) e (omega arith) ∙ more.same
            ∙ ap (λ (j : ℕ). half z cells j) sum;
        left = subst (λ (j : ℕ). drop j cells ≡ rest) sum more.left;
      }
