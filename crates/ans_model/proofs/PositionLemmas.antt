-- Places and their indices in row order.
use Rattle.std.proofs.Common.{◌≡◌, ◌≢◌, ◌⊎◌, inl, inr, ℕ, ◌+◌, ◌*◌, ◌<◌, ◌≤◌, ap, ◌∙◌, arith, add-mul, one-mul}
use Rattle.std.proofs.lemmas.Bool.{cases_eq}
use Rattle.std.proofs.lemmas.Nat.{mul-le}
use Rattle.ans_model.specs.declared.cell.Position.{Position}
use Rattle.ans_model.specs.Screen.State.{Size, at, IsOnScreen, IsStated, cell_count, index}
use Rattle.ans_model.specs.Screen.Step.{next_row_start}

pub same_position : (p q : Position) → p.row ≡ q.row → p.column ≡ q.column → p ≡ q
same_position p q r c = ap (λ (x : ℕ). at x p.column) r ∙ ap (λ (x : ℕ). at q.row x) c

pub position_eq : (p q : Position) → (p ≡ q) ⊎ (p ≢ q)
position_eq p q = elim (cases_eq p.row q.row) [
  | inl r ↦ elim (cases_eq p.column q.column) [
    | inl c ↦ inl (same_position p q r c)
    | inr n ↦ inr (λ e. n (ap (λ (x : Position). x.column) e))
  ]
  | inr n ↦ inr (λ e. n (ap (λ (x : Position). x.row) e))
]

-- a row ends before the next one begins
pub row_le : (z : Size) (a b : ℕ) → a < b → a * z.width + z.width ≤ b * z.width
row_le z a b h =
    let e : (a + 1) * z.width ≡ a * z.width + z.width = add-mul a 1 z.width
    ∙ ap (λ (n : ℕ). a * z.width + n) (one-mul z.width) in
    omega (arith, e, mul-le (a + 1) z.width b z.width (omega arith) (omega arith))

-- where a row ends
pub row_start : (z : Size) (p : Position) → next_row_start z p ≡ p.row * z.width + z.width
row_start z p = add-mul p.row 1 z.width ∙ ap (λ (n : ℕ). p.row * z.width + n) (one-mul z.width)

-- a row ends on the screen
pub row_end_le : (z : Size) (p : Position) → IsOnScreen z p → next_row_start z p ≤ cell_count z
row_end_le z p h = mul-le (p.row + 1) z.width (z.lines + 1) z.width (omega (arith, h.0)) (omega arith)

-- a position comes before the end of its row
pub index-le_row_end : (z : Size) (p : Position) → IsOnScreen z p → index z p ≤ next_row_start z p
index-le_row_end z p h = omega (arith, row_start z p, h.1)

-- a position in an earlier row has a smaller index
pub index-lt_row : (z : Size) (p q : Position) → p.column < z.width → p.row < q.row → index z p < index z q
index-lt_row z p q c r = omega (arith, row_le z p.row q.row r)

-- a position on the screen has a cell
pub index-lt : (z : Size) (p : Position) → IsOnScreen z p → index z p < cell_count z
index-lt z p h = omega (arith, row_le z p.row (z.lines + 1) (omega (arith, h.0)), h.1)

-- a position of the stated lines has a cell of the picture
pub index-lt_stated : (z : Size) (p : Position) → IsStated z p → index z p < z.lines * z.width
index-lt_stated z p h = omega (arith, row_le z p.row z.lines h.0, h.1)
