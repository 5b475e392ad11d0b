-- The steps of a play on a taller screen beside those of three plays on the stated one.
use Rattle.std.proofs.Common.{◌≡◌, ◌≢◌, ◌⊎◌, inl, inr, ℕ, zero, suc, ◌+◌, ◌-◌, ◌*◌, ◌<◌, ◌≤◌, List}
use Rattle.std.proofs.Common.{length, replicate, set, fold, refl, ap, ap₂, sym, subst, ◌∙◌, arith}
use Rattle.std.proofs.lemmas.Bool.{cases_eq, cases_lt}
use Rattle.std.proofs.lemmas.Nat.{mul-le}
use Rattle.std.specs.Prelude.{slice_get, min}
use Rattle.ans_model.specs.Bytes.{blank}
use Rattle.ans_model.specs.declared.cell.Cell.{Cell}
use Rattle.ans_model.specs.declared.cell.Position.{Position}
use Rattle.ans_model.specs.Sequence.TokenKind.{TokenKind, Glyph, BackSpace, LineFeed, CarriageReturn, Tab, Up, Down}
use Rattle.ans_model.specs.Sequence.TokenKind.{Forward, Backward, Place, Clear, EraseLine, Save, Restore, Colours, Wrap}
use Rattle.ans_model.specs.Screen.Attribute.{attribute_after_all}
use Rattle.ans_model.specs.Screen.State.{Size, State, FitsScreen, at, cell, cell_count, index, sized}
use Rattle.ans_model.specs.Screen.Step.{blank_cell, destination, filled, line_feed, next_row_start, put, step}
use Rattle.ans_model.specs.Screen.Step.{tab_blanks}
use Rattle.ans_model.proofs.CleanLemmas.{some_blanks}
use Rattle.ans_model.proofs.FilledLemmas.{filled_before, filled_within, filled_after}
use Rattle.ans_model.proofs.PositionLemmas.{index-le_row_end, index-lt, row_end_le}
use Rattle.ans_model.proofs.Slices.{slice_get-replicate, slice_get-set_same, slice_get-set_other}
use Rattle.ans_model.proofs.StepLemmas.{line_feed_is}
use Rattle.ans_model.proofs.WellFormed.{fits_after_put}
use Rattle.ans_pens.proofs.Printed.{next, next_row, put_is}

-- ---- screens that agree in their first cells
abbrev pub Agree : ℕ → List Cell → List Cell → Type 0
Agree n xs ys = (k : ℕ) → k < n → slice_get xs k ≡ slice_get ys k

agree_set : (n : ℕ) (xs ys : List Cell) (i : ℕ) (c : Cell) → i < length xs → i < length ys → Agree n xs ys
    → Agree n (set xs i c) (set ys i c)
agree_set n xs ys i c x y h k lt = elim (cases_eq k i) [
  | inl same ↦ rw same (slice_get-set_same xs i c x ∙ sym (slice_get-set_same ys i c y))
  | inr other ↦ slice_get-set_other xs i k c other ∙ h k lt ∙ sym (slice_get-set_other ys i k c other)
]

agree_filled : (n : ℕ) (xs ys : List Cell) (i j : ℕ) (c : Cell) → i ≤ j → j ≤ length xs → j ≤ length ys
    → Agree n xs ys → Agree n (filled xs i j c) (filled ys i j c)
agree_filled n xs ys i j c le x y h k lt = elim (cases_lt k i) [
  | inl before ↦ filled_before xs i j c k le x before ∙ h k lt ∙ sym (filled_before ys i j c k le y before)
  | inr from ↦ elim (cases_lt k j) [
    | inl within ↦ filled_within xs i j c k from within x ∙ sym (filled_within ys i j c k from within y)
    | inr after ↦ filled_after xs i j c k le after x ∙ h k lt ∙ sym (filled_after ys i j c k le after y)
  ]
]

agree_replicate : (n m l : ℕ) (c : Cell) → n ≤ m → n ≤ l → Agree n (replicate m c) (replicate l c)
agree_replicate n m l c le le' k lt =
    slice_get-replicate m c k (omega arith) ∙ sym (slice_get-replicate l c k (omega arith))

-- ---- four positions: on the taller screen, and in three plays on the stated one

module _ (z : Size) (lines : ℕ) (taller : z.lines ≤ lines) (some_columns : 0 < z.width) (some_lines : 0 < z.lines) where
  abbrev pub tall : Size
  tall = sized z.width lines

  -- all four are one
  abbrev pub AreOne : Position → Position → Position → Position → Type 0
  AreOne q p low high = (q ≡ p) × (low ≡ p) × (high ≡ p) × (p.row ≤ z.lines)

  -- they stand in one column, and the last two at both ends of it
  abbrev pub AreAnywhere : Position → Position → Position → Position → Type 0
  AreAnywhere q p low high =
      (q.column ≡ p.column) × (low.column ≡ p.column) × (high.column ≡ p.column) × (low.row ≡ 0) × (high.row ≡ z.lines)

  abbrev pub AreAlike : Position → Position → Position → Position → Type 0
  AreAlike q p low high = AreOne q p low high ⊎ AreAnywhere q p low high

  -- where the last two stand in one row, all are one
  pub one_where_same_row : (q p low high : Position) → AreAlike q p low high → low.row ≡ high.row → AreOne q p low high
  one_where_same_row q p low high (inl one) same = one
  one_where_same_row q p low high (inr (c, d, e, top, bottom)) same =
      absurd (let no : ⊥ = omega (arith, same, top, bottom) in no)

  -- what a move needs
  abbrev IsRoomToMove : TokenKind → Position → Position → Position → Type 0
  IsRoomToMove (Up n) p low high = low.row ≡ high.row
  IsRoomToMove (Down n) p low high = (p.row + n ≤ z.lines) × (high.row + n ≤ z.lines)
  IsRoomToMove (Place row column) p low high = row ≤ z.lines + 1
  IsRoomToMove t p low high = Unit {0}

  -- a move from one position goes to one
  move_one : (t : TokenKind) (p low high : Position) → IsRoomToMove t p low high → p.row ≤ z.lines
      → (destination tall t p ≡ destination z t p) × ((destination z t p).row ≤ z.lines)
  move_one (Up n) p low high room on = (refl, omega arith)
  move_one (Down n) p low high room on =
      (ap (λ (r : ℕ). at r p.column) (omega (arith, room.0)), omega arith)
  move_one (Place row column) p low high room on =
      (ap (λ (r : ℕ). at r (min (column - 1) (z.width - 1))) (omega arith), omega arith)
  move_one (Forward n) p low high room on = (refl, on)
  move_one (Backward n) p low high room on = (refl, on)
  move_one BackSpace p low high room on = (refl, on)
  move_one CarriageReturn p low high room on = (refl, on)
  move_one t p low high room on = (refl, on)

  alike_one : (t : TokenKind) (q p low high : Position) → IsRoomToMove t p low high → AreOne q p low high
      → AreOne (destination tall t q) (destination z t p) (destination z t low) (destination z t high)
  alike_one t q p low high room (a, b, c, on) =
      let moved = move_one t p low high room on in (
        ap (destination tall t) a ∙ moved.0,
        ap (destination z t) b,
        ap (destination z t) c,
        moved.1,
      )

  alike_move : (t : TokenKind) (q p low high : Position) → IsRoomToMove t p low high → AreAlike q p low high
      → AreAlike (destination tall t q) (destination z t p) (destination z t low) (destination z t high)
  alike_move t q p low high room (inl one) = inl (alike_one t q p low high room one)
  alike_move (Up n) q p low high room (inr h) =
      inl (alike_one (Up n) q p low high room (one_where_same_row q p low high (inr h) room))
  alike_move (Down n) q p low high room (inr (a, b, c, top, bottom)) =
      inr (a, b, c, omega (arith, room.1, top, bottom), omega (arith, room.1, top, bottom))
  alike_move (Place row column) q p low high room (inr h) = inl (
    ap (λ (r : ℕ). at r (min (column - 1) (z.width - 1))) (omega arith),
    refl,
    refl,
    omega arith,
  )
  alike_move (Forward n) q p low high room (inr (a, b, c, top, bottom)) = inr (
    ap (λ (v : ℕ). min (v + n) (z.width - 1)) a,
    ap (λ (v : ℕ). min (v + n) (z.width - 1)) b,
    ap (λ (v : ℕ). min (v + n) (z.width - 1)) c,
    top,
    bottom,
  )
  alike_move (Backward n) q p low high room (inr (a, b, c, top, bottom)) =
      inr (ap (λ (v : ℕ). v - n) a, ap (λ (v : ℕ). v - n) b, ap (λ (v : ℕ). v - n) c, top, bottom)
  alike_move BackSpace q p low high room (inr (a, b, c, top, bottom)) =
      inr (ap (λ (v : ℕ). v - 1) a, ap (λ (v : ℕ). v - 1) b, ap (λ (v : ℕ). v - 1) c, top, bottom)
  alike_move CarriageReturn q p low high room (inr (a, b, c, top, bottom)) = inr (refl, refl, refl, top, bottom)
  alike_move t q p low high room (inr h) = inr h

  -- ---- four states

  pub record AreAlikeStates (t s low high : State) : Type 0 where
    pub cursor : AreAlike t.cursor s.cursor low.cursor high.cursor
    pub saved : AreAlike t.saved s.saved low.saved high.saved
    pub wrap : (t.wrap ≡ s.wrap) × (low.wrap ≡ s.wrap) × (high.wrap ≡ s.wrap)
    pub attribute : t.attribute ≡ s.attribute
    pub screen : Agree (z.lines * z.width) t.screen s.screen

  alike : {t s low high : State} → AreAlike t.cursor s.cursor low.cursor high.cursor
      → AreAlike t.saved s.saved low.saved high.saved
      → (t.wrap ≡ s.wrap) × (low.wrap ≡ s.wrap) × (high.wrap ≡ s.wrap) → t.attribute ≡ s.attribute
      → Agree (z.lines * z.width) t.screen s.screen → AreAlikeStates t s low high
  alike c v w a x = record { cursor = c; saved = v; wrap = w; attribute = a; screen = x }

  -- what a token needs
  abbrev pub IsRoomFor : TokenKind → State → State → State → Type 0
  IsRoomFor LineFeed s low high = (s.cursor.row < z.lines) × (high.cursor.row ≢ z.lines)
  IsRoomFor (Glyph byte) s low high = (s.cursor.row < z.lines) × (low.cursor.row ≡ high.cursor.row)
  IsRoomFor EraseLine s low high = low.cursor.row ≡ high.cursor.row
  IsRoomFor Tab s low high = (i : ℕ) → i < tab_blanks s.cursor.column
      → ((fold (put z) s (replicate i blank)).cursor.row < z.lines)
      × ((fold (put z) low (replicate i blank)).cursor.row ≡ (fold (put z) high (replicate i blank)).cursor.row)
  IsRoomFor t s low high = IsRoomToMove t s.cursor low.cursor high.cursor

  alike_put : (t s low high : State) (byte : ℕ) → s.cursor.row < z.lines → low.cursor.row ≡ high.cursor.row
      → FitsScreen tall t → FitsScreen z s
      → AreAlikeStates t s low high
      → AreAlikeStates (put tall t byte) (put z s byte) (put z low byte) (put z high byte)
  alike_put t s low high byte above same ft fs h =
      let one = one_where_same_row t.cursor s.cursor low.cursor high.cursor h.cursor same in
      let t_above : t.cursor.row < lines = rw one.0 (omega (arith, above)) in
      let low_above : low.cursor.row < z.lines = rw one.1 above in
      let high_above : high.cursor.row < z.lines = rw one.2 above in
      rw (put_is tall t byte t_above, put_is z s byte above, put_is z low byte low_above, put_is z high byte high_above)
      (record {
        cursor = inl (
          ap₂ (next z) one.0 h.wrap.0,
          ap₂ (next z) one.1 h.wrap.1,
          ap₂ (next z) one.2 h.wrap.2,
          next_row z s.cursor s.wrap above,
        );
        saved = h.saved;
        wrap = h.wrap;
        attribute = h.attribute;
        screen = rw (one.0, h.attribute) (agree_set (z.lines * z.width) t.screen s.screen (index z s.cursor)
            (cell byte s.attribute) (rw (sym (ap (index z) one.0)) (rw ft.cells (index-lt tall t.cursor ft.cursor)))
            (rw fs.cells (index-lt z s.cursor fs.cursor)) h.screen);
      })

  pub alike_blanks : (t s low high : State) (n : ℕ)
      → ((i : ℕ) → i < n → ((fold (put z) s (replicate i blank)).cursor.row < z.lines)
      × ((fold (put z) low (replicate i blank)).cursor.row ≡ (fold (put z) high (replicate i blank)).cursor.row))
      → FitsScreen tall t → FitsScreen z s → AreAlikeStates t s low high
      → AreAlikeStates (fold (put tall) t (replicate n blank)) (fold (put z) s (replicate n blank))
      (fold (put z) low (replicate n blank)) (fold (put z) high (replicate n blank))
  alike_blanks t s low high zero room ft fs h = h
  alike_blanks t s low high (suc n) room ft fs h =
      let first = room 0 (omega arith) in
      alike_blanks (put tall t blank) (put z s blank) (put z low blank) (put z high blank) n
      (λ i lt. room (suc i) (omega arith)) (fits_after_put tall t blank some_columns ft)
      (fits_after_put z s blank some_columns fs) (alike_put t s low high blank first.0 first.1 ft fs h)

  alike_line_feed : (t s low high : State) → s.cursor.row < z.lines → high.cursor.row ≢ z.lines
      → AreAlikeStates t s low high
      → AreAlikeStates (line_feed tall t) (line_feed z s) (line_feed z low) (line_feed z high)
  alike_line_feed t s low high above not_below h = go h.cursor
    where
      down : Position → Position
      down p = at (p.row + 1) p.column

      go : AreAlike t.cursor s.cursor low.cursor high.cursor
          → AreAlikeStates (line_feed tall t) (line_feed z s) (line_feed z low) (line_feed z high)
      go (inr (a, b, c, top, bottom)) = absurd (not_below bottom)
      go (inl one) =
          let t_above : t.cursor.row < lines = rw one.0 (omega (arith, above)) in
          let low_above : low.cursor.row < z.lines = rw one.1 above in
          let high_above : high.cursor.row < z.lines = rw one.2 above in
          rw (
            line_feed_is tall t t_above,
            line_feed_is z s above,
            line_feed_is z low low_above,
            line_feed_is z high high_above,
          ) (record {
            cursor = inl (ap down one.0, ap down one.1, ap down one.2, omega (arith, above));
            saved = h.saved;
            wrap = h.wrap;
            attribute = h.attribute;
            screen = h.screen;
          })

  home_is_one : AreAlike (at 0 0) (at 0 0) (at 0 0) (at 0 0)
  home_is_one = inl (refl, refl, refl, omega arith)

  pub alike_step : (t s low high : State) (token : TokenKind) → IsRoomFor token s low high → FitsScreen tall t
      → FitsScreen z s → AreAlikeStates t s low high
      → AreAlikeStates (step tall t token) (step z s token) (step z low token) (step z high token)
  alike_step t s low high LineFeed room ft fs h = alike_line_feed t s low high room.0 room.1 h
  alike_step t s low high (Glyph byte) room ft fs h = alike_put t s low high byte room.0 room.1 ft fs h
  alike_step t s low high Tab room ft fs h =
      let first = room 0 (some_blanks s.cursor.column) in
      let one = one_where_same_row t.cursor s.cursor low.cursor high.cursor h.cursor first.1 in
      let blanks = alike_blanks t s low high (tab_blanks s.cursor.column) room ft fs h in
      subst (λ (p : Position). AreAlikeStates (fold (put tall) t (replicate (tab_blanks p.column) blank))
      (step z s Tab) (step z low Tab) (step z high Tab)) (sym one.0)
      (subst (λ (p : Position). AreAlikeStates (fold (put tall) t (replicate (tab_blanks s.cursor.column) blank))
      (step z s Tab) (fold (put z) low (replicate (tab_blanks p.column) blank)) (step z high Tab)) (sym one.1)
      (subst (λ (p : Position). AreAlikeStates (fold (put tall) t (replicate (tab_blanks s.cursor.column) blank))
      (step z s Tab) (fold (put z) low (replicate (tab_blanks s.cursor.column) blank))
      (fold (put z) high (replicate (tab_blanks p.column) blank))) (sym one.2) blanks))
  alike_step t s low high Clear room ft fs h = record {
    cursor = home_is_one;
    saved = h.saved;
    wrap = h.wrap;
    attribute = h.attribute;
    screen = rw h.attribute (agree_replicate (z.lines * z.width) (cell_count tall) (cell_count z)
        (blank_cell s.attribute) (cells_of lines taller) (cells_of z.lines (omega arith)));
  }
    where
      cells_of : (n : ℕ) → z.lines ≤ n → z.lines * z.width ≤ (n + 1) * z.width
      cells_of n le = mul-le z.lines z.width (n + 1) z.width (omega arith) (omega arith)
  alike_step t s low high EraseLine room ft fs h =
      let one = one_where_same_row t.cursor s.cursor low.cursor high.cursor h.cursor room in
      record {
        cursor = h.cursor;
        saved = h.saved;
        wrap = h.wrap;
        attribute = h.attribute;
        screen = rw (one.0, h.attribute) (agree_filled (z.lines * z.width) t.screen s.screen (index z s.cursor)
            (next_row_start z s.cursor) (blank_cell s.attribute) (index-le_row_end z s.cursor fs.cursor)
            (rw (sym (ap (next_row_start z) one.0)) (rw ft.cells (row_end_le tall t.cursor ft.cursor)))
            (rw fs.cells (row_end_le z s.cursor fs.cursor)) h.screen);
      }
  alike_step t s low high Save room ft fs h = alike h.cursor h.cursor h.wrap h.attribute h.screen
  alike_step t s low high Restore room ft fs h = alike h.saved h.saved h.wrap h.attribute h.screen
  alike_step t s low high (Colours numbers) room ft fs h =
      alike h.cursor h.saved h.wrap (ap (λ (a : ℕ). attribute_after_all a numbers) h.attribute) h.screen
  alike_step t s low high (Wrap on) room ft fs h = alike h.cursor h.saved (refl, refl, refl) h.attribute h.screen
  alike_step t s low high token room ft fs h =
      alike (alike_move token t.cursor s.cursor low.cursor high.cursor room h.cursor) h.saved h.wrap h.attribute
      h.screen
