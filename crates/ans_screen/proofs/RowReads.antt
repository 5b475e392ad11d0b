-- Cells read, looked through and copied of planes with a state for each row.
use Rattle.std.proofs.Common.{◌≡◌, ℕ, ◌+◌, ◌-◌, ◌*◌, ◌≤◌, ◌<◌, false, List, map, length, take, drop, ◌++◌, replicate}
use Rattle.std.proofs.Common.{get_or, refl, ap, sym, ◌∙◌, arith, Option, Some, None, inl, inr, min}
use Rattle.std.specs.Int.Bits.{and_zero_l, and_zero_r}
use Rattle.std.specs.List.{between, position, slice_get}
use Rattle.std.proofs.Math.Seq.{drop-drop}
use Rattle.std.proofs.lemmas.Bool.{cases_lt}
use Rattle.std.proofs.lemmas.Bool.Decides.{eqb_tells}
use Rattle.std.proofs.lemmas.List.{get_or-take, get_or-replicate, get_or_past, length-take-le, length-replicate}
use Rattle.std.proofs.lemmas.List.Edits.{get_or-between}
use Rattle.std.proofs.lemmas.List.Sums.{position_or_len_is}
use Rattle.std.proofs.lemmas.Nat.{and_mask}
use Rattle.std.proofs.lemmas.Option.{slice_get-get_or}
use borrow.Rule.Slice.PartMut.{put_mid}
use Rattle.ans_screen.specs.GridEdits.{written, row_cells, is_unknown, first_unknown}
use Rattle.ans_screen.specs.HalfCells.{attribute_byte, glyph_byte, byte_of}
use Rattle.ans_screen.specs.CellPlanes.{known_byte, AreKnown, IsFirstGap, IsFront}
use Rattle.ans_screen.specs.RowCells.{Planes, Stale, Known, Mixed, cell_in_grid, cells_of_grid, states_of, length_grid}
use Rattle.ans_screen.specs.RowCells.{shown_plane, known_plane, AreKnownCells, IsCopied, IsHeldRow, FindsUnknown}
use Rattle.ans_screen.specs.declared.cell.CellByte.{CellByte}
use Rattle.ans_screen.specs.declared.cell.CellByte.TheVariants.{Glyph, Attribute}
use Rattle.ans_screen.specs.declared.cell.HalfCell.{HalfCell}
use Rattle.ans_screen.specs.declared.row_planes.RowState.{RowState}
use Rattle.ans_screen.proofs.Copies.{no_cell, row_copied}
use Rattle.ans_screen.proofs.FirstGap.{unknown_cell, known_next, position_none, position_some}
use Rattle.ans_screen.proofs.Places.{length-written, row_end, written_before, written_at, written_behind}
use Rattle.ans_screen.proofs.RowCells.{get_cell, cell_in_state}

known_by_0 : (which : CellByte) (x : ℕ) → known_byte which x 0 ≡ 0
known_by_0 Glyph x = refl
known_by_0 Attribute x = and_zero_r x

known_of_0 : (which : CellByte) (x : ℕ) → known_byte which 0 x ≡ 0
known_of_0 Glyph x = elim (eqb_tells x 0xFF) [
  | inl known ↦ rw known.0 refl
  | inr other ↦ rw other.0 refl
]
known_of_0 Attribute x = and_zero_l x

module _ (g : Planes) where
  -- what is read is cell i
  pub read_cell : {i : ℕ} {x : HalfCell} → i < g.width * g.rows → x ≡ cell_in_grid g i
      → slice_get (cells_of_grid g) i ≡ Some x
  read_cell {i = i} {x = x} lt e =
      slice_get-get_or (cells_of_grid g) i x (omega (arith, length_grid g))
      ∙ ap (λ (y : HalfCell). Some y) (get_cell g i x lt ∙ sym e)

  -- ---- the first unknown cell of mixed cells
  pub gap_none : (from to n : ℕ) → n ≤ to - from → ((i : ℕ) → from ≤ i → i < to → states_of g i ≡ Mixed)
      → AreKnown (between from to g.glyphs_known) (between from to g.bits_known) n
      → AreKnownCells (cell_in_grid g) from (from + n)
  gap_none from to n short mixed known i le lt =
      let at : from + (i - from) ≡ i = omega arith in
      let here = known (i - from) (omega arith) in
      let k : get_or g.glyphs_known i 0 ≡ 0xFF =
      rw (← at) (sym (get_or-between g.glyphs_known from to (i - from) 0 (omega arith)) ∙ here.0) in
      let b : get_or g.bits_known i 0 ≡ 0xFF =
      rw (← at) (sym (get_or-between g.bits_known from to (i - from) 0 (omega arith)) ∙ here.1) in
      ap is_unknown (cell_in_state g Mixed i (mixed i le (omega arith))) ∙ rw (k, b) refl

  pub gap_some : (from to i : ℕ) → ((i : ℕ) → from ≤ i → i < to → states_of g i ≡ Mixed)
      → IsFirstGap (between from to g.glyphs_known) (between from to g.bits_known) (to - from) (Some i)
      → FindsUnknown (cell_in_grid g) from to (Some (from + i))
  gap_some from to i mixed found =
      let lt = found.0 in
      let k = get_or-between g.glyphs_known from to i 0 (omega arith) in
      let b = get_or-between g.bits_known from to i 0 (omega arith) in (
        omega arith,
        omega arith,
        gap_none from to i (omega arith) mixed found.1,
        ap is_unknown (cell_in_state g Mixed (from + i) (mixed (from + i) (omega arith) (omega arith)))
            ∙ unknown_cell (get_or g.glyphs (from + i) 0) (get_or g.glyphs_known (from + i) 0)
            (get_or g.bits_known (from + i) 0) (get_or g.values (from + i) 0)
            (λ ek eb. found.2 (known_next (between from to g.glyphs_known) (between from to g.bits_known) i found.1
            (k ∙ ek) (b ∙ eb))),
      )

  -- ---- the first of all cells
  pub first_of_grid : (to : ℕ) (result : Option ℕ) → to ≤ g.width * g.rows
      → FindsUnknown (cell_in_grid g) 0 to result → result ≡ first_unknown (cells_of_grid g) to
  first_of_grid to result le first = of_result result first
    where
      front : List HalfCell
      front = take to (cells_of_grid g)

      len : length front ≡ to
      len = length-take-le to (cells_of_grid g) (omega (arith, length_grid g))

      at : (i : ℕ) → i < to → get_or front i no_cell ≡ cell_in_grid g i
      at i lt = get_or-take to (cells_of_grid g) i no_cell lt ∙ get_cell g i no_cell (omega arith)

      below : (i : ℕ) → i ≤ to → AreKnownCells (cell_in_grid g) 0 i → (k : ℕ) → k < i
          → is_unknown (get_or front k no_cell) ≡ false
      below i within known k lt = ap is_unknown (at k (omega arith)) ∙ known k (omega arith) lt

      of_result : (r : Option ℕ) → FindsUnknown (cell_in_grid g) 0 to r → r ≡ position is_unknown front
      of_result None known =
          sym (position_none is_unknown front
          (position_or_len_is is_unknown front to no_cell (omega (arith, len)) (below to (omega arith) known)
          (λ past. absurd (omega (arith, len))) ∙ sym len))
      of_result (Some i) found =
          sym (position_some is_unknown front i
          (position_or_len_is is_unknown front i no_cell (omega (arith, len, found.1))
          (below i (omega (arith, found.1)) found.2)
          (λ within. ap is_unknown (at i found.1) ∙ found.3))
          (omega (arith, len, found.1)))

  -- ---- cells of one row, copied
  -- what is read of a mixed cell by its planes
  pub mixed_byte : (which : CellByte) (i : ℕ) → states_of g i ≡ Mixed
      → byte_of which (cell_in_grid g i)
      ≡ known_byte which (get_or (shown_plane which g) i 0) (get_or (known_plane which g) i 0)
  mixed_byte Glyph i e = ap glyph_byte (cell_in_state g Mixed i e)
  mixed_byte Attribute i e = ap attribute_byte (cell_in_state g Mixed i e)

  -- what is copied of mixed cells, as far as their bytes are held
  pub mixed_copied : (which : CellByte) (shown known new : List ℕ) (from to count k : ℕ)
      → IsFront shown (shown_plane which g) from to → IsFront known (known_plane which g) from to
      → states_of g (from + k) ≡ Mixed → count ≡ min (length shown) (length known) → from + k < to → length new ≡ count
      → ((j : ℕ) → j < count → get_or new j 0
      ≡ known_byte which (get_or (take count shown) j 0) (get_or (take count known) j 0))
      → get_or new k 0 ≡ byte_of which (cell_in_grid g (from + k))
  mixed_copied which shown known new from to count k is_shown is_known mixed is_count lt len each =
      let x = get_or shown k 0 in
      let y = get_or known k 0 in
      let byte : byte_of which (cell_in_grid g (from + k)) ≡ known_byte which x y =
      mixed_byte which (from + k) mixed
      ∙ (ap (λ (z : ℕ). known_byte which z (get_or (known_plane which g) (from + k) 0)) (sym (is_shown.each k lt))
      ∙ ap (λ (z : ℕ). known_byte which x z) (sym (is_known.each k lt))) in
      elim (cases_lt k count) [
        | inl below ↦
            each k below
            ∙ (ap (λ (z : ℕ). known_byte which z (get_or (take count known) k 0)) (get_or-take count shown k 0 below)
            ∙ (ap (λ (z : ℕ). known_byte which x z) (get_or-take count known k 0 below) ∙ sym byte))
        | inr past ↦
            let none : known_byte which x y ≡ 0 = elim (cases_lt k (length shown)) [
              | inl within ↦
                  ap (λ (z : ℕ). known_byte which x z) (get_or_past known k 0 (omega arith)) ∙ known_by_0 which x
              | inr out ↦ ap (λ (z : ℕ). known_byte which z y) (get_or_past shown k 0 out) ∙ known_of_0 which y
            ] in
            get_or_past new k 0 (omega arith) ∙ sym (byte ∙ none)
      ]

  -- and of a known cell
  pub known_byte_is : (which : CellByte) (i : ℕ) → states_of g i ≡ Known → get_or (shown_plane which g) i 0 < 256
      → byte_of which (cell_in_grid g i) ≡ get_or (shown_plane which g) i 0
  known_byte_is Glyph i e lt = ap glyph_byte (cell_in_state g Known i e)
  known_byte_is Attribute i e lt =
      ap attribute_byte (cell_in_state g Known i e) ∙ (and_mask (get_or g.values i 0) 8 ∙ omega arith)

-- a part of a list that is written
put_is_written : (a k : ℕ) (xs ys : List ℕ) → k ≡ length ys → put_mid a k xs ys ≡ written xs a ys
put_is_written a k xs ys e =
    ap (λ (zs : List ℕ). take a xs ++ (ys ++ zs)) (drop-drop k a xs ∙ ap (λ (n : ℕ). drop (a + n) xs) e)

-- what is copied of a row is what its cells have there
module _ (g : Planes) (byte : HalfCell → ℕ) (row : ℕ) (held : RowState) (holds : IsHeldRow g row held)
    (lt : row < g.rows) (old copied inner : List ℕ) (blank from : ℕ) (is : blank ≡ byte g.blank)
    (at_start : from ≡ row * g.width) (long : length old ≡ g.width) (filled : copied ≡ replicate (length old) blank)
    (len : length inner ≡ held.end - held.first)
    (inside : IsCopied byte g held.first (held.end - held.first) inner) where
  abbrev at : ℕ
  at = held.first - from

  abbrev new : List ℕ
  new = put_mid at (held.end - from - at) copied inner

  all : length copied ≡ length old
  all = ap length filled ∙ length-replicate (length old) blank

  fits : at + length inner ≤ length copied
  fits = omega (arith, len, all, holds.start, holds.stop, holds.ordered)

  new_is : new ≡ written copied at inner
  new_is = put_is_written at (held.end - from - at) copied inner (omega (arith, len, holds.start, holds.ordered))

  -- a cell that is not held
  blank_there : (k : ℕ) → k < g.width → states_of g (from + k) ≡ Stale
      → get_or copied k 0 ≡ byte (cell_in_grid g (from + k))
  blank_there k within e =
      ap (λ (xs : List ℕ). get_or xs k 0) filled
      ∙ (get_or-replicate (length old) k blank 0 (omega arith)
      ∙ (is ∙ ap byte (sym (cell_in_state g Stale (from + k) e))))

  copied_each : IsCopied byte g from g.width new
  copied_each k within = ap (λ (xs : List ℕ). get_or xs k 0) new_is ∙ elim (cases_lt k at) [
    | inl early ↦
        written_before copied at inner k 0 fits early
        ∙ blank_there k within (holds.before (from + k) (omega arith) (omega arith))
    | inr later ↦ elim (cases_lt k (held.end - from)) [
      | inl here ↦
          let place : at + (k - at) ≡ k = omega arith in
          let cell : held.first + (k - at) ≡ from + k = omega (arith, holds.start) in
          ap (λ (n : ℕ). get_or (written copied at inner) n 0) (sym place)
          ∙ (written_at copied at inner (k - at) 0 fits (omega (arith, len))
          ∙ (inside (k - at) (omega arith) ∙ ap (λ (n : ℕ). byte (cell_in_grid g n)) cell))
      | inr past ↦
          written_behind copied at inner k 0 fits (omega (arith, len, holds.start, holds.ordered))
          ∙ blank_there k within (holds.after (from + k) (omega arith) (omega arith))
    ]
  ]

  pub held_copied : new ≡ map byte (row_cells g.width row (cells_of_grid g))
  held_copied =
      let room = row_end g.width row g.rows lt in
      row_copied byte (cells_of_grid g) g.width g.rows row from new (length_grid g) lt at_start
      (ap length new_is ∙ (length-written copied at inner fits ∙ (all ∙ long)))
      (λ k within. copied_each k within ∙ ap byte (sym (get_cell g (from + k) no_cell (omega arith))))
