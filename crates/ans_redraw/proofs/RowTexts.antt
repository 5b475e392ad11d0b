-- The texts of a row's cells, as they are written.
use Rattle.std.proofs.Common.{◌≡◌, ℕ, ◌+◌, ◌<◌, ◌≤◌, true, false, refl, ap, ap₂, ◌∙◌}
use Rattle.std.proofs.Common.{arith, List, [], ◌∷◌, ◌++◌, length, drop, get_or}
use Rattle.std.specs.Simd.Lanes.{zip2}
use Rattle.std.proofs.lemmas.List.{drop_more, drop_all, drop-drop}
use Rattle.ans_model.specs.declared.cell.Cell.{Cell}
use Rattle.ans_model.specs.Screen.State.{cell}
use Rattle.ans_redraw.specs.declared.pen.RowPen.{RowPen}
use Rattle.ans_redraw.specs.Colours.{colours_to}
use Rattle.ans_redraw.specs.Form.{drawn, cell_drawn, glyph, is_blank, over, pen, pen_after, pen_behind, texts}
use Rattle.ans_redraw.proofs.WayTexts.{texts_both}

-- the cells from a column on
abbrev pub cells_from : List ℕ → List ℕ → ℕ → List Cell
cells_from bytes attributes i = zip2 cell (drop i bytes) (drop i attributes)

pub next_cell : (bytes attributes : List ℕ) (i : ℕ) → i < length bytes → length attributes ≡ length bytes
    → cells_from bytes attributes i
    ≡ cell (get_or bytes i 0) (get_or attributes i 0) ∷ cells_from bytes attributes (i + 1)
next_cell bytes attributes i lt same =
    ap₂ (λ (u v : List ℕ). zip2 cell u v) (drop_more bytes i 0 lt)
    (drop_more attributes i 0 (omega (arith, lt, same)))

-- those some columns behind
pub cells_behind : (bytes attributes : List ℕ) (i n : ℕ)
    → zip2 cell (drop n (drop i bytes)) (drop n (drop i attributes)) ≡ cells_from bytes attributes (i + n)
cells_behind bytes attributes i n =
    ap₂ (λ (u v : List ℕ). zip2 cell u v) (drop-drop n i bytes) (drop-drop n i attributes)

-- there are none at the end
pub no_cells : (bytes attributes : List ℕ) (i : ℕ) → length bytes ≤ i → cells_from bytes attributes i ≡ []
no_cells bytes attributes i le = ap (λ (v : List ℕ). zip2 cell v (drop i attributes)) (drop_all i bytes le)

module _ (p : RowPen) (c : Cell) (row : List Cell) where
  -- the first cell is passed over
  pub one_passed : is_blank c ≡ true
      → texts (drawn p (c ∷ row)) ≡ texts (drawn (pen p.attribute (p.passed + 1)) row)
  one_passed h = rw h refl

  pub pen_passed : is_blank c ≡ true → pen_behind p (c ∷ row) ≡ pen_behind (pen p.attribute (p.passed + 1)) row
  pen_passed h = rw h refl

  -- the first cell is printed
  pub one_printed : is_blank c ≡ false
      → texts (drawn p (c ∷ row))
      ≡ texts (over p.attribute p.passed ++ (colours_to p.attribute c.attribute ++ glyph c.byte ∷ []))
      ++ texts (drawn (pen c.attribute 0) row)
  one_printed h = texts_both (cell_drawn p c) (drawn (pen_after p c) row) ∙ rw h refl

  pub pen_printed : is_blank c ≡ false → pen_behind p (c ∷ row) ≡ pen_behind (pen c.attribute 0) row
  pen_printed h = rw h refl
