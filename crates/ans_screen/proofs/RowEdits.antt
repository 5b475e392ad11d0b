-- The cells of planes with a state for each row, through runs and fills.
use Rattle.std.proofs.Common.{◌≡◌, ℕ, ◌+◌, ◌-◌, ◌*◌, ◌≤◌, ◌<◌, Bool, List, map, length, get_or, replicate, refl, ap}
use Rattle.std.proofs.Common.{sym, ◌∙◌, arith, inl, inr, ◌⊎◌, All}
use Rattle.std.proofs.lemmas.List.Elements.{All-get_or}
use Rattle.std.proofs.lemmas.Bool.{cases_lt}
use Rattle.std.proofs.lemmas.List.{length-replicate, length-map, get_or_past}
use Rattle.ans_screen.specs.GridEdits.{written}
use Rattle.ans_screen.specs.CellPlanes.{cell_of}
use Rattle.ans_screen.specs.RowCells.{Planes, Stale, byte_cell, state_of, state_in, states_of, cells_of_grid}
use Rattle.ans_screen.specs.RowCells.{length_grid, never_written, AreMarked, SameRows, SameBytes, HasBlanks}
use Rattle.ans_model.specs.Screen.Step.{filled}
use Rattle.ans_screen.specs.declared.cell.HalfCell.{HalfCell}
use Rattle.ans_screen.specs.declared.row_planes.RowState.{RowState}
use Rattle.ans_screen.proofs.Places.{keeps_all, keeps_written, keeps_filled, filled_within, filled_run, written_at}
use Rattle.ans_screen.proofs.Places.{map-replicate, get_or-map_within, Keeps, is_written}
use Rattle.ans_screen.proofs.RowCells.{get_cell, cell_written, same_byte_cell, off_round}

-- ---- cells side by side are written in the planes that count
module _ {g n : Planes} {from to : ℕ} {known : Bool} (k b v : ℕ) (same : SameRows g n) (le : from ≤ to)
    (room : to ≤ g.width * g.rows) (values : n.values ≡ filled g.values from to v)
    (marks : AreMarked g n known from to k b) where
  -- the planes of what is known are as they were elsewhere
  kept_marks : Keeps g.glyphs_known n.glyphs_known from to × Keeps g.bits_known n.bits_known from to
  kept_marks = elim marks [
    | inl m ↦ (
      keeps_filled g.glyphs_known n.glyphs_known from to k m.1 le (omega (arith, g.whole_glyphs_known)),
      keeps_filled g.bits_known n.bits_known from to b m.2 le (omega (arith, g.whole_bits_known)),
    )
    | inr m ↦ rw (m.1.glyphs_known, m.1.bits_known)
        (keeps_all g.glyphs_known from to, keeps_all g.bits_known from to)
  ]

  -- and so are all bytes
  kept : Keeps g.glyphs n.glyphs from to → (i : ℕ) → (i < from) ⊎ (to ≤ i) → SameBytes g n i
  kept glyphs i out = record {
    glyph = glyphs.outside i out;
    glyph_known = kept_marks.0.outside i out;
    bits_known = kept_marks.1.outside i out;
    value = (keeps_filled g.values n.values from to v values le (omega (arith, g.whole_values))).outside i out;
  }

  -- a cell that is written
  shown : (i x : ℕ) → from ≤ i → i < to → get_or n.glyphs i 0 ≡ x → byte_cell (state_of known) n i ≡ cell_of x k b v
  shown i x after before glyph =
      let value = filled_within g.values n.values from to v i values (omega (arith, g.whole_values)) after before in
      elim marks [
        | inl m ↦
            rw (
              m.0,
              glyph,
              filled_within g.glyphs_known n.glyphs_known from to k i m.1 (omega (arith, g.whole_glyphs_known)) after
                  before,
              filled_within g.bits_known n.bits_known from to b i m.2 (omega (arith, g.whole_bits_known)) after before,
              value,
            ) refl
        | inr m ↦ rw (m.0, glyph, m.2, m.3, value) refl
      ]

  -- a run is written to cells that are held
  pub run_shown : ((i : ℕ) → from ≤ i → i < to → states_of g i ≡ state_of known) → (run : List ℕ)
      → to ≡ from + length run → n.glyphs ≡ written g.glyphs from run
      → cells_of_grid n ≡ written (cells_of_grid g) from (map (λ (x : ℕ). cell_of x k b v) run)
  run_shown held run end glyphs =
      let cell = λ (x : ℕ). cell_of x k b v in
      let len : length (map cell run) ≡ length run = length-map run cell in
      let bytes = kept (keeps_written g.glyphs n.glyphs from to run glyphs end (omega (arith, g.whole_glyphs))) in
      let size : n.width * n.rows ≡ g.width * g.rows = rw (same.width, same.rows) refl in
      is_written (cells_of_grid g) (cells_of_grid n) from (map cell run) (omega (arith, length_grid g, length_grid n))
      (omega (arith, length_grid g))
      (λ i d lt out.
      let within : i < g.width * g.rows = omega (arith, length_grid g) in
      let off : (i < from) ⊎ (to ≤ i) = elim out [ inl before ↦ inl before | inr past ↦ inr (omega arith) ] in
      cell_written same (states_of g i) i d within refl
      ∙ (same_byte_cell (states_of g i) g n i same.blank (bytes i off) ∙ sym (get_cell g i d within)))
      (λ j d lt.
      cell_written same (state_of known) (from + j) d (omega arith) (held (from + j) (omega arith) (omega arith))
      ∙ (shown (from + j) (get_or run j 0) (omega arith) (omega arith)
      (ap (λ (xs : List ℕ). get_or xs (from + j) 0) glyphs
      ∙ written_at g.glyphs from run j 0 (omega (arith, g.whole_glyphs)) (omega arith))
      ∙ sym (get_or-map_within cell run j 0 d (omega arith))))

  -- cells that are held are filled
  pub fill_shown : ((i : ℕ) → from ≤ i → i < to → states_of g i ≡ state_of known) → (x : ℕ) (c : HalfCell)
      → n.glyphs ≡ filled g.glyphs from to x → cell_of x k b v ≡ c
      → cells_of_grid n ≡ filled (cells_of_grid g) from to c
  fill_shown held x c glyphs is =
      let len : length (replicate (to - from) x) ≡ to - from = length-replicate (to - from) x in
      run_shown held (replicate (to - from) x) (omega arith) (glyphs ∙ filled_run g.glyphs from to x le)
      ∙ (ap (λ xs. written (cells_of_grid g) from xs) (map-replicate (λ (y : ℕ). cell_of y k b v) (to - from) x)
      ∙ (sym (filled_run (cells_of_grid g) from to (cell_of x k b v) le)
      ∙ ap (λ (d : HalfCell). filled (cells_of_grid g) from to d) is))

  -- the blank is written, whether the cells are held or not
  pub blanks_shown : (x : ℕ) → n.glyphs ≡ filled g.glyphs from to x → cell_of x k b v ≡ g.blank
      → HasBlanks (state_of known) g n from to
  blanks_shown x glyphs is = record {
    inside = λ i after before.
        shown i x after before (filled_within g.glyphs n.glyphs from to x i glyphs (omega (arith, g.whole_glyphs))
        after before)
        ∙ (is ∙ sym same.blank);
    outside = kept (keeps_filled g.glyphs n.glyphs from to x glyphs le (omega (arith, g.whole_glyphs)));
  }

-- ---- no row holds a cell, where each was last written before this round
pub all_stale : (round : ℕ) (held : List RowState) (row i : ℕ) → 0 < round
    → All (λ (r : RowState). r.round < round) held
    → state_in round (get_or held row never_written) i ≡ Stale
all_stale round held row i some older =
    let before : (get_or held row never_written).round < round = elim (cases_lt row (length held)) [
      | inl within ↦ All-get_or (λ (r : RowState). r.round < round) held row never_written within older
      | inr past ↦ rw (get_or_past held row never_written past) some
    ] in
    off_round round (get_or held row never_written) i (λ e. omega arith)
