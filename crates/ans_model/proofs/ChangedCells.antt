-- The cells that a step changes, and those that it keeps.
use Rattle.std.proofs.Common.{◌≡◌, ◌≢◌, inl, inr, ℕ, ◌+◌, ◌*◌, ◌≤◌, ap, arith, length, Some}
use Rattle.std.proofs.lemmas.Bool.{cases_lt}
use Rattle.ans_model.specs.Screen.State.{Size, State, FitsScreen, IsOnScreen, cell, cell_at, index}
use Rattle.ans_model.specs.Screen.Step.{blank_cell, next_row_start, printed, step}
use Rattle.ans_model.specs.Sequence.TokenKind.{EraseLine}
use Rattle.ans_model.specs.declared.cell.Position.{Position}
use Rattle.ans_model.proofs.FilledLemmas.{filled_before, filled_within, filled_after}
use Rattle.ans_model.proofs.PositionLemmas.{same_position, row_le, row_start, row_end_le, index-lt, index-lt_row}
use Rattle.ans_model.proofs.PositionLemmas.{index-le_row_end}
use Rattle.ans_model.proofs.Slices.{slice_get-set_same, slice_get-set_other}

-- positions on the screen with one index are one
pub one_position_an_index : (z : Size) (p q : Position) → IsOnScreen z p → IsOnScreen z q → index z p ≡ index z q
    → p ≡ q
one_position_an_index z p q on_p on_q e = elim (cases_lt p.row q.row) [
  | inl less ↦ absurd (omega (arith, index-lt_row z p q on_p.1 less))
  | inr more ↦ elim (cases_lt q.row p.row) [
    | inl less ↦ absurd (omega (arith, index-lt_row z q p on_q.1 less))
    | inr other ↦
        let row : p.row ≡ q.row = omega arith in
        let start : p.row * z.width ≡ q.row * z.width = ap (λ (n : ℕ). n * z.width) row in
        same_position p q row (omega (arith, start))
  ]
]

module _ (z : Size) (s : State) (fits : FitsScreen z s) where
  -- ---- a printed byte
  pub printed_cell : (byte : ℕ) → cell_at z (printed z s byte).screen s.cursor ≡ Some (cell byte s.attribute)
  printed_cell byte =
      slice_get-set_same s.screen (index z s.cursor) (cell byte s.attribute)
      (omega (arith, index-lt z s.cursor fits.cursor, fits.cells))

  pub cell_beside_printed : (byte : ℕ) (p : Position) → IsOnScreen z p → p ≢ s.cursor
      → cell_at z (printed z s byte).screen p ≡ cell_at z s.screen p
  cell_beside_printed byte p on other =
      slice_get-set_other s.screen (index z s.cursor) (index z p) (cell byte s.attribute)
      (λ e. other (one_position_an_index z p s.cursor on fits.cursor e))

  -- ---- an erased line
  row_fits : next_row_start z s.cursor ≤ length s.screen
  row_fits = rw fits.cells (row_end_le z s.cursor fits.cursor)

  -- in the cursor's row, from the cursor on
  pub erased_cell : (p : Position) → IsOnScreen z p → p.row ≡ s.cursor.row → s.cursor.column ≤ p.column
      → cell_at z (step z s EraseLine).screen p ≡ Some (blank_cell s.attribute)
  erased_cell p on row from =
      let ends : next_row_start z s.cursor ≡ s.cursor.row * z.width + z.width = row_start z s.cursor in
      let start : p.row * z.width ≡ s.cursor.row * z.width = ap (λ (n : ℕ). n * z.width) row in
      filled_within s.screen (index z s.cursor) (next_row_start z s.cursor) (blank_cell s.attribute) (index z p)
      (omega (arith, start)) (omega (arith, start, ends, on.1)) row_fits

  pub cell_beside_erased : (p : Position) → IsOnScreen z p
      → ¬ ((p.row ≡ s.cursor.row) × (s.cursor.column ≤ p.column))
      → cell_at z (step z s EraseLine).screen p ≡ cell_at z s.screen p
  cell_beside_erased p on outside =
      let ends : next_row_start z s.cursor ≡ s.cursor.row * z.width + z.width = row_start z s.cursor in
      let begins : index z s.cursor ≤ next_row_start z s.cursor = index-le_row_end z s.cursor fits.cursor in
      elim (cases_lt (index z p) (index z s.cursor)) [
        | inl less ↦ filled_before s.screen (index z s.cursor) (next_row_start z s.cursor) (blank_cell s.attribute)
            (index z p) begins row_fits less
        | inr more ↦ elim (cases_lt s.cursor.row p.row) [
          | inl below ↦ filled_after s.screen (index z s.cursor) (next_row_start z s.cursor) (blank_cell s.attribute)
              (index z p) begins (omega (arith, ends, row_le z s.cursor.row p.row below)) row_fits
          | inr above ↦ elim (cases_lt p.row s.cursor.row) [
            | inl higher ↦ absurd (omega (arith, index-lt_row z p s.cursor on.1 higher))
            | inr same ↦
                let row : p.row ≡ s.cursor.row = omega arith in
                let start : p.row * z.width ≡ s.cursor.row * z.width = ap (λ (n : ℕ). n * z.width) row in
                absurd (outside (row, omega (arith, start)))
          ]
        ]
      ]
