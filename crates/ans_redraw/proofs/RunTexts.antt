-- The texts of cells of one attribute, one after the other.
use Rattle.std.proofs.Common.{◌≡◌, ℕ, zero, suc, ◌<◌, ◌≤◌, true, false, refl, ap, ap₂, sym, ◌∙◌, arith}
use Rattle.std.proofs.Common.{List, [], ◌∷◌, ◌++◌, length, take, drop, get_or, eq-eqb}
use Rattle.std.specs.Prelude.{◌==◌}
use Rattle.std.specs.List.{list_all}
use Rattle.std.specs.Simd.Lanes.{zip2}
use Rattle.ans_model.specs.declared.cell.Cell.{Cell}
use Rattle.ans_model.specs.Screen.State.{cell}
use Rattle.ans_redraw.specs.Colours.{colours_to}
use Rattle.ans_redraw.specs.Form.{drawn, is_blank, over, pen, pen_behind, texts}
use Rattle.ans_redraw.proofs.WayTexts.{cell_texts, nothing_over}
use Rattle.ans_redraw.proofs.RowTexts.{one_printed, pen_printed}

-- no colours from an attribute to itself
no_colours : (a : ℕ) → [] ≡ texts (colours_to a a)
no_colours a =
    let same : (a == a) ≡ true = eq-eqb a a refl in
    rw same refl

-- n blanks, and the cells behind them
pub blanks_passed : (n : ℕ) (bytes attributes : List ℕ) → n ≤ length bytes → n ≤ length attributes
    → ((k : ℕ) → k < n → get_or bytes k 0 ≡ 0x20) → ((k : ℕ) → k < n → get_or attributes k 0 ≡ 0x07)
    → list_all is_blank (zip2 cell (drop n bytes) (drop n attributes))
    ≡ list_all is_blank (zip2 cell bytes attributes)
blanks_passed zero bytes attributes le le' space grey = refl
blanks_passed (suc n) [] attributes le le' space grey = absurd (let no : ⊥ = omega arith in no)
blanks_passed (suc n) (b ∷ bytes) [] le le' space grey = absurd (let no : ⊥ = omega arith in no)
blanks_passed (suc n) (b ∷ bytes) (c ∷ attributes) le le' space grey =
    let row : List Cell = zip2 cell bytes attributes in
    blanks_passed n bytes attributes (omega arith) (omega arith)
    (λ k lt. space (suc k) (omega arith)) (λ k lt. grey (suc k) (omega arith))
    ∙ ap₂ (λ (u v : ℕ). list_all is_blank (cell u v ∷ row)) (sym (space 0 (omega arith))) (sym (grey 0 (omega arith)))

module _ (a : ℕ) where
  -- a cell of the attribute is drawn by its byte
  one_alike : (b : ℕ) (row : List Cell) → is_blank (cell b a) ≡ false
      → texts (drawn (pen a 0) (cell b a ∷ row)) ≡ b ∷ texts (drawn (pen a 0) row)
  one_alike b row some =
      let byte_alone : texts (over a 0) ++ texts (colours_to a a) ≡ [] =
      ap₂ (λ (u v : List ℕ). u ++ v) (sym (nothing_over a 0 refl)) (sym (no_colours a)) in
      one_printed (pen a 0) (cell b a) row some
      ∙ ap (λ (v : List ℕ). v ++ texts (drawn (pen a 0) row))
      (sym (cell_texts (over a 0) (colours_to a a) b) ∙ ap (λ (v : List ℕ). v ++ b ∷ []) byte_alone)

  -- n cells of the attribute, none of them a blank, are drawn by their bytes
  pub run_drawn : (n : ℕ) (bytes attributes : List ℕ) → length attributes ≡ length bytes → n ≤ length bytes
      → ((k : ℕ) → k < n → get_or attributes k 0 ≡ a)
      → ((k : ℕ) → k < n → is_blank (cell (get_or bytes k 0) a) ≡ false)
      → texts (drawn (pen a 0) (zip2 cell bytes attributes))
      ≡ take n bytes ++ texts (drawn (pen a 0) (zip2 cell (drop n bytes) (drop n attributes)))
  run_drawn zero bytes attributes same le is some = refl
  run_drawn (suc n) [] attributes same le is some = absurd (let no : ⊥ = omega arith in no)
  run_drawn (suc n) (b ∷ bytes) [] same le is some = absurd (let no : ⊥ = omega arith in no)
  run_drawn (suc n) (b ∷ bytes) (c ∷ attributes) same le is some =
      let row : List Cell = zip2 cell bytes attributes in
      ap (λ (v : ℕ). texts (drawn (pen a 0) (cell b v ∷ row))) (is 0 (omega arith))
      ∙ one_alike b row (some 0 (omega arith))
      ∙ ap (λ (v : List ℕ). b ∷ v) (run_drawn n bytes attributes (omega arith) (omega arith)
      (λ k lt. is (suc k) (omega arith)) (λ k lt. some (suc k) (omega arith)))

  -- and the pen is the same behind them
  pub run_behind : (n : ℕ) (bytes attributes : List ℕ) → length attributes ≡ length bytes → n ≤ length bytes
      → ((k : ℕ) → k < n → get_or attributes k 0 ≡ a)
      → ((k : ℕ) → k < n → is_blank (cell (get_or bytes k 0) a) ≡ false)
      → pen_behind (pen a 0) (zip2 cell (drop n bytes) (drop n attributes))
      ≡ pen_behind (pen a 0) (zip2 cell bytes attributes)
  run_behind zero bytes attributes same le is some = refl
  run_behind (suc n) [] attributes same le is some = absurd (let no : ⊥ = omega arith in no)
  run_behind (suc n) (b ∷ bytes) [] same le is some = absurd (let no : ⊥ = omega arith in no)
  run_behind (suc n) (b ∷ bytes) (c ∷ attributes) same le is some =
      let row : List Cell = zip2 cell bytes attributes in
      run_behind n bytes attributes (omega arith) (omega arith)
      (λ k lt. is (suc k) (omega arith)) (λ k lt. some (suc k) (omega arith))
      ∙ sym (pen_printed (pen a 0) (cell b a) row (some 0 (omega arith)))
      ∙ ap (λ (v : ℕ). pen_behind (pen a 0) (cell b v ∷ row)) (sym (is 0 (omega arith)))
