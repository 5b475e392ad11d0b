-- The cells of planes with a state for each cell, and rows that are held otherwise.
use Rattle.std.proofs.Common.{◌≡◌, ◌≢◌, ℕ, ◌*◌, ◌/◌, ◌≤◌, ◌<◌, map, get_or, refl, ap, sym, ◌∙◌, arith, inl, inr, ◌⊎◌}
use Rattle.std.specs.List.{range_with_len}
use Rattle.std.proofs.lemmas.Bool.{cases_lt, lt-ltb, le-ltb, eq-eqb, ne_eqb}
use Rattle.std.proofs.lemmas.List.FromFn.{get_or-map-range_with_len}
use Rattle.std.proofs.lemmas.Bool.Decides.{eqb_tells}
use Rattle.ans_screen.specs.RowCells.{Planes, CellState, Stale, state_of, state_in, states_of, byte_cell}
use Rattle.ans_screen.specs.RowCells.{cell_in_grid, cells_of_grid, never_written, SameBytes, SameRows}
use Rattle.ans_screen.specs.declared.cell.HalfCell.{HalfCell}
use Rattle.ans_screen.specs.declared.row_planes.RowState.{RowState}
use Rattle.ans_screen.proofs.Places.{same_from_index}

pub get_cell : (g : Planes) (i : ℕ) (d : HalfCell) → i < g.width * g.rows
    → get_or (cells_of_grid g) i d ≡ cell_in_grid g i
get_cell g i d lt = get_or-map-range_with_len (cell_in_grid g) 0 (g.width * g.rows) i i d lt (omega arith)

-- the same bytes are the same cell in two grids of the same blank
pub same_byte_cell : (s : CellState) (g h : Planes) (i : ℕ) → h.blank ≡ g.blank → SameBytes g h i
    → byte_cell s h i ≡ byte_cell s g i
same_byte_cell s g h i e same = rw (e, same.glyph, same.glyph_known, same.bits_known, same.value) refl

-- a cell, by its state
pub cell_in_state : (g : Planes) (s : CellState) (i : ℕ) → states_of g i ≡ s → cell_in_grid g i ≡ byte_cell s g i
cell_in_state g s i e = ap (λ t. byte_cell t g i) e

-- a cell of a grid whose planes alone were written
pub cell_written : {g n : Planes} → SameRows g n → (s : CellState) (i : ℕ) (d : HalfCell) → i < g.width * g.rows
    → states_of g i ≡ s → get_or (cells_of_grid n) i d ≡ byte_cell s n i
cell_written {n = n} same s i d lt e =
    get_cell n i d (rw (same.width, same.rows) lt)
    ∙ cell_in_state n s i (rw (same.width, same.round, same.held) e)

-- ---- the state of a cell
pub in_held : (round : ℕ) (row : RowState) (i : ℕ) → row.round ≡ round → row.first ≤ i → i < row.end
    → state_in round row i ≡ state_of row.known
in_held round row i now le lt =
    rw (eq-eqb row.round round now, le-ltb i row.first le, lt-ltb i row.end lt) refl

pub off_round : (round : ℕ) (row : RowState) (i : ℕ) → row.round ≢ round → state_in round row i ≡ Stale
off_round round row i other = rw (ne_eqb row.round round other) refl

pub off_held : (round : ℕ) (row : RowState) (i : ℕ) → (i < row.first) ⊎ (row.end ≤ i) → state_in round row i ≡ Stale
off_held round row i out = elim (eqb_tells row.round round) [
  | inr other ↦ off_round round row i other.1
  | inl now ↦ elim (cases_lt i row.first) [
    | inl before ↦ rw (now.0, lt-ltb i row.first before) refl
    | inr after ↦ elim out [
      | inl before ↦ absurd (omega arith)
      | inr past ↦ rw (now.0, le-ltb i row.first after, le-ltb i row.end past) refl
    ]
  ]
]

-- a cell of a row, by what is read of the row
pub state_here : (g : Planes) (row i : ℕ) (r : RowState) → i / g.width ≡ row → r ≡ get_or g.held row never_written
    → states_of g i ≡ state_in g.round r i
state_here g row i r at read =
    ap (λ (n : ℕ). state_in g.round (get_or g.held n never_written) i) at
    ∙ ap (λ (h : RowState). state_in g.round h i) (sym read)

-- ---- two grids of one size of which each cell is the same
pub same_cells : (g n : Planes) → n.width ≡ g.width → n.rows ≡ g.rows
    → ((i : ℕ) → cell_in_grid n i ≡ cell_in_grid g i) → cells_of_grid n ≡ cells_of_grid g
same_cells g n width rows same =
    let size : n.width * n.rows ≡ g.width * g.rows = rw (width, rows) refl in
    same_from_index (cell_in_grid n) (cell_in_grid g) (n.width * n.rows) (λ i within. same i)
    ∙ ap (λ (count : ℕ). map (cell_in_grid g) (range_with_len 0 count)) size
