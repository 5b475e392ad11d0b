-- After a token a state of the machine is still one: it fits its screen, and each byte and attribute is one.
use Rattle.std.proofs.Common.{◌≡◌, ℕ, zero, suc, fold, ◌+◌, ◌<◌, ◌≤◌, Bool, true, false, arith, ◌∙◌, List}
use Rattle.std.proofs.Common.{[], ◌∷◌, ◌++◌, length, drop, set, replicate, All, inl, inr, lit<}
use Rattle.std.specs.Prelude.{if◌then◌else◌}
use Rattle.std.proofs.lemmas.Bool.{cases_lt, lt-ltb, le-ltb, eq-eqb, ne_eqb, cases_eq}
use Rattle.std.proofs.lemmas.List.{length-drop, length-append, length-replicate, length-set}
use Rattle.std.proofs.lemmas.List.Elements.{All-append, All-drop, All-replicate, All-set}
use Rattle.std.proofs.lemmas.Nat.{mul-le}
use Rattle.ans_model.specs.Sequence.TokenKind.{TokenKind, PrintsByte, Glyph, BackSpace, LineFeed, CarriageReturn, Up}
use Rattle.ans_model.specs.Sequence.TokenKind.{Down, Forward, Backward, Place, Clear, EraseLine, Save, Restore}
use Rattle.ans_model.specs.Sequence.TokenKind.{Colours, Wrap, Tab}
use Rattle.ans_model.specs.Screen.State.{Size, State, at, cell, cell_count, index, IsOnScreen, IsByteCell, FitsScreen}
use Rattle.ans_model.specs.Screen.State.{IsWellFormed}
use Rattle.ans_model.specs.Bytes.{IsByte, blank}
use Rattle.ans_model.specs.declared.cell.Cell.{Cell}
use Rattle.ans_model.specs.declared.cell.Position.{Position}
use Rattle.ans_model.specs.Screen.Step.{blank_cell, next_row_start, destination, scrolled, line_feed}
use Rattle.ans_model.specs.Screen.Step.{advanced, put, step, final}
use Rattle.ans_model.proofs.AttributeBytes.{attribute_after_all_lt}
use Rattle.ans_model.proofs.PositionLemmas.{row_end_le, index-le_row_end}
use Rattle.ans_model.proofs.FilledLemmas.{length-filled, All-filled}

-- a move ends on the screen
destination_on_screen : (z : Size) (t : TokenKind) (p : Position) → 0 < z.width → IsOnScreen z p
    → IsOnScreen z (destination z t p)
destination_on_screen z (Up n) p w h = (omega arith, h.1)
destination_on_screen z (Down n) p w h = (omega arith, h.1)
destination_on_screen z (Forward n) p w h = (h.0, omega arith)
destination_on_screen z (Backward n) p w h = (h.0, omega arith)
destination_on_screen z (Place row column) p w h = (omega arith, omega arith)
destination_on_screen z BackSpace p w h = (h.0, omega arith)
destination_on_screen z CarriageReturn p w h = (h.0, omega arith)
destination_on_screen z _ p w h = h

-- ---- the cells are those of the screen, and both cursors stand on it
-- a state with another cursor on the screen
fits_with_cursor : (z : Size) (s : State) (p : Position) → FitsScreen z s → IsOnScreen z p
    → FitsScreen z (record s { cursor = p })
fits_with_cursor z s p h on = record { cells = h.cells; cursor = on; saved = h.saved }

-- a state with as many other cells
fits_with_screen : (z : Size) (s : State) (cells : List Cell) → FitsScreen z s → length cells ≡ length s.screen
    → FitsScreen z (record s { screen = cells })
fits_with_screen z s cells h e = record { cells = e ∙ h.cells; cursor = h.cursor; saved = h.saved }

-- the screen has a row
row_le : (z : Size) (s : State) → FitsScreen z s → z.width ≤ length s.screen
row_le z s h = rw h.cells (omega (arith, mul-le 1 z.width (z.lines + 1) z.width (omega arith) (omega arith)))

-- a scrolled screen
fits_scrolled : (z : Size) (s : State) → FitsScreen z s → FitsScreen z (scrolled z s)
fits_scrolled z s h =
    fits_with_screen z s (drop z.width s.screen ++ replicate z.width (blank_cell s.attribute)) h
    (let row : z.width ≤ length s.screen = row_le z s h in
    simp (length-append, length-drop, length-replicate) (omega arith))

-- after a line feed
fits_after_line_feed : (z : Size) (s : State) → FitsScreen z s → FitsScreen z (line_feed z s)
fits_after_line_feed z s h = elim (cases_eq s.cursor.row z.lines) [
  | inl e ↦ rw (eq-eqb s.cursor.row z.lines e) (fits_scrolled z s h)
  | inr ne ↦ rw (ne_eqb s.cursor.row z.lines ne)
      (fits_with_cursor z s (at (s.cursor.row + 1) s.cursor.column) h (omega (arith, h.cursor.0), h.cursor.1))
]

-- after the cursor has gone on
fits_after_print : (z : Size) (s : State) → 0 < z.width → FitsScreen z s → FitsScreen z (advanced z s)
fits_after_print z s w h = elim (cases_lt (s.cursor.column + 1) z.width) [
  | inl more ↦ rw (lt-ltb (s.cursor.column + 1) z.width more)
      (fits_with_cursor z s (at s.cursor.row (s.cursor.column + 1)) h (h.cursor.0, more))
  | inr last ↦ rw (le-ltb (s.cursor.column + 1) z.width last) (wrapped s.wrap)
]
  where
    wrapped : (b : Bool) → FitsScreen z (if b then line_feed z (record s { cursor = at s.cursor.row 0 }) else s)
    wrapped true = fits_after_line_feed z (record s { cursor = at s.cursor.row 0 })
        (fits_with_cursor z s (at s.cursor.row 0) h (h.cursor.0, w))
    wrapped false = h

-- after a printed byte
pub fits_after_put : (z : Size) (s : State) (byte : ℕ) → 0 < z.width → FitsScreen z s → FitsScreen z (put z s byte)
fits_after_put z s byte w h =
    let c : Cell = cell byte s.attribute in
    fits_after_print z (record s { screen = set s.screen (index z s.cursor) c }) w
    (fits_with_screen z s (set s.screen (index z s.cursor) c) h (length-set s.screen (index z s.cursor) c))

-- after blanks
fits_after_blanks : (z : Size) (s : State) (count : ℕ) → 0 < z.width → FitsScreen z s
    → FitsScreen z (fold (put z) s (replicate count blank))
fits_after_blanks z s zero w h = h
fits_after_blanks z s (suc count) w h =
    fits_after_blanks z (put z s blank) count w (fits_after_put z s blank w h)

-- after each token
pub fits_after_step : (z : Size) (s : State) (t : TokenKind) → 0 < z.width → FitsScreen z s → FitsScreen z (step z s t)
fits_after_step z s Clear w h = record {
  cells = length-replicate (cell_count z) (blank_cell s.attribute);
  cursor = (omega arith, w);
  saved =
      h.saved;
}
fits_after_step z s EraseLine w h =
    fits_with_screen z s _ h
    (length-filled s.screen (index z s.cursor) (next_row_start z s.cursor) (blank_cell s.attribute)
    (index-le_row_end z s.cursor h.cursor) (rw h.cells (row_end_le z s.cursor h.cursor)))
fits_after_step z s Save w h = record { cells = h.cells; cursor = h.cursor; saved = h.cursor }
fits_after_step z s Restore w h = fits_with_cursor z s s.saved h h.saved
fits_after_step z s (Colours ps) w h = record { cells = h.cells; cursor = h.cursor; saved = h.saved }
fits_after_step z s (Wrap on) w h = record { cells = h.cells; cursor = h.cursor; saved = h.saved }
fits_after_step z s LineFeed w h = fits_after_line_feed z s h
fits_after_step z s (Glyph byte) w h = fits_after_put z s byte w h
fits_after_step z s Tab w h = search (w, h, fits_after_blanks)
fits_after_step z s t w h =
    fits_with_cursor z s (destination z t s.cursor) h (destination_on_screen z t s.cursor w h.cursor)

-- after tokens
pub fits_after_tokens : (z : Size) (s : State) (tokens : List TokenKind) → 0 < z.width → FitsScreen z s
    → FitsScreen z (final z s tokens)
fits_after_tokens z s [] w h = h
fits_after_tokens z s (t ∷ tokens) w h = fits_after_tokens z (step z s t) tokens w (fits_after_step z s t w h)

-- ---- each byte and attribute is one
record HasBytes (s : State) : Type 0 where
  screen : All IsByteCell s.screen
  attribute : IsByte s.attribute

blank_is_byte : (a : ℕ) → a < 256 → IsByteCell (blank_cell a)
blank_is_byte a h = (lit< tt, h)

-- after a line feed
bytes_after_line_feed : (z : Size) (s : State) → HasBytes s → HasBytes (line_feed z s)
bytes_after_line_feed z s h = elim (cases_eq s.cursor.row z.lines) [
  | inl e ↦ rw (eq-eqb s.cursor.row z.lines e) (record {
    screen = All-append IsByteCell (drop z.width s.screen) (replicate z.width (blank_cell s.attribute))
        (All-drop IsByteCell z.width s.screen h.screen)
        (All-replicate IsByteCell z.width (blank_cell s.attribute) (blank_is_byte s.attribute h.attribute));
    attribute = h.attribute;
  })
  | inr ne ↦ rw (ne_eqb s.cursor.row z.lines ne) (record { screen = h.screen; attribute = h.attribute })
]

-- after the cursor has gone on
bytes_after_print : (z : Size) (s : State) → HasBytes s → HasBytes (advanced z s)
bytes_after_print z s h = elim (cases_lt (s.cursor.column + 1) z.width) [
  | inl more ↦ rw (lt-ltb (s.cursor.column + 1) z.width more) (record { screen = h.screen; attribute = h.attribute })
  | inr last ↦ rw (le-ltb (s.cursor.column + 1) z.width last) (wrapped s.wrap)
]
  where
    wrapped : (b : Bool) → HasBytes (if b then line_feed z (record s { cursor = at s.cursor.row 0 }) else s)
    wrapped true = bytes_after_line_feed z (record s { cursor = at s.cursor.row 0 })
        (record { screen = h.screen; attribute = h.attribute })
    wrapped false = h

-- after a printed byte
bytes_after_put : (z : Size) (s : State) (byte : ℕ) → byte < 256 → HasBytes s → HasBytes (put z s byte)
bytes_after_put z s byte b h =
    let c : Cell = cell byte s.attribute in
    bytes_after_print z (record s { screen = set s.screen (index z s.cursor) c }) (record {
      screen = All-set IsByteCell s.screen (index z s.cursor) c (b, h.attribute) h.screen;
      attribute = h.attribute;
    })

-- after blanks
bytes_after_blanks : (z : Size) (s : State) (count : ℕ) → HasBytes s
    → HasBytes (fold (put z) s (replicate count blank))
bytes_after_blanks z s zero h = h
bytes_after_blanks z s (suc count) h =
    bytes_after_blanks z (put z s blank) count (bytes_after_put z s blank (lit< tt) h)

-- after each token
bytes_after_step : (z : Size) (s : State) (t : TokenKind) → PrintsByte t → HasBytes s → HasBytes (step z s t)
bytes_after_step z s Clear b h = record {
  screen = All-replicate IsByteCell (cell_count z) (blank_cell s.attribute) (blank_is_byte s.attribute h.attribute);
  attribute = h.attribute;
}
bytes_after_step z s EraseLine b h = record {
  screen = All-filled IsByteCell s.screen (index z s.cursor) (next_row_start z s.cursor) (blank_cell s.attribute)
      (blank_is_byte s.attribute h.attribute) h.screen;
  attribute = h.attribute;
}
bytes_after_step z s (Colours ps) b h = record {
  screen = h.screen;
  attribute = attribute_after_all_lt s.attribute ps h.attribute;
}
bytes_after_step z s LineFeed b h = bytes_after_line_feed z s h
bytes_after_step z s (Glyph byte) b h = bytes_after_put z s byte b h
bytes_after_step z s Tab b h = search (h, bytes_after_blanks)
bytes_after_step z s t b h = record { screen = h.screen; attribute = h.attribute }

-- after each token a state is well formed
pub well_formed_after_step : (z : Size) (s : State) (t : TokenKind) → PrintsByte t → 0 < z.width → IsWellFormed z s
    → IsWellFormed z (step z s t)
well_formed_after_step z s t b w h =
    let bytes : HasBytes (step z s t) =
    bytes_after_step z s t b (record { screen = h.bytes; attribute = h.attribute }) in
    record { fits = fits_after_step z s t w h.fits; bytes = bytes.screen; attribute = bytes.attribute }
