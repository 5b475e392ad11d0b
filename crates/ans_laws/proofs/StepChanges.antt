-- What each step changes, and what it leaves as it was.
use Rattle.std.proofs.Common.{◌≡◌, ◌≢◌, inl, inr, ℕ, ◌+◌, ◌*◌, ◌<◌, Bool, true, false, refl}
use Rattle.std.proofs.Common.{ap, ◌∙◌, arith, add-mul, one-mul, length, drop, replicate}
use Rattle.std.specs.Prelude.{if◌then◌else◌, slice_get}
use Rattle.std.proofs.lemmas.Bool.{cases_lt, lt-ltb, le-ltb, eq-eqb}
use Rattle.std.proofs.lemmas.List.{length-drop, length-set}
use Rattle.ans_model.specs.Sequence.TokenKind.{Clear, EraseLine}
use Rattle.ans_model.specs.Screen.State.{Size, State, IsWellFormed, at, cell, cell_at, cell_count, index}
use Rattle.ans_model.specs.declared.cell.Position.{Position}
use Rattle.ans_model.specs.Screen.Step.{step, scrolled, line_feed, printed, blank_cell}
use Rattle.ans_laws.specs.StepLaws.{OnlyScreenAndCursor, IsCleared, IsLineErased, NextPosition, GlyphPrints}
use Rattle.ans_laws.specs.StepLaws.{GlyphScrolls, LineFeedMovesDown, IsScrolled, LineFeedScrolls, ChangesOneCell}
use Rattle.ans_laws.specs.StepLaws.{IsPrintedAndScrolled}
use Rattle.ans_laws.specs.MoveLaws.{IsLastColumn}
use Rattle.ans_model.proofs.Slices.{slice_get-append_left, slice_get-append_right, slice_get-drop, slice_get-replicate}
use Rattle.ans_model.proofs.PositionLemmas.{same_position, row_le, index-lt}
use Rattle.ans_model.proofs.StepLemmas.{line_feed_is}
use Rattle.ans_model.proofs.ChangedCells.{printed_cell, cell_beside_printed, erased_cell, cell_beside_erased}

same_others : (s t : State) → t.saved ≡ s.saved → t.attribute ≡ s.attribute → t.wrap ≡ s.wrap → OnlyScreenAndCursor s t
same_others s t e f g = record { saved = e; attribute = f; wrap = g }

pub clears_screen : (z : Size) (s : State) → IsCleared z s (step z s Clear)
clears_screen z s = record {
  blank = λ p on. slice_get-replicate (cell_count z) (blank_cell s.attribute) (index z p) (index-lt z p on);
  home = refl;
  others = same_others s (step z s Clear) refl refl refl;
}

-- ---- an erased line
pub erases_line : (z : Size) (s : State) → IsWellFormed z s → IsLineErased z s (step z s EraseLine)
erases_line z s h = record {
  erased = λ p on inside. erased_cell z s h.fits p on inside.0 inside.1;
  kept = λ p on outside. cell_beside_erased z s h.fits p on outside;
  cursor = refl;
  others = same_others s (step z s EraseLine) refl refl refl;
}

-- ---- line feeds
pub line_feed_moves_down : LineFeedMovesDown
line_feed_moves_down z s h = line_feed_is z s h

-- each row is the one below it
scrolled_is : (z : Size) (s : State) → length s.screen ≡ cell_count z → IsScrolled z s (scrolled z s)
scrolled_is z s cells =
    let left : length (drop z.width s.screen) ≡ z.lines * z.width =
    simp length-drop (omega (arith, cells, add-mul z.lines 1 z.width, one-mul z.width)) in
    record {
      rows = λ p on below.
          let lt : index z p < z.lines * z.width = omega (arith, row_le z p.row z.lines below, on.1) in
          let next : z.width + index z p ≡ index z (at (p.row + 1) p.column) =
          omega (arith, add-mul p.row 1 z.width, one-mul z.width) in
          slice_get-append_left (drop z.width s.screen) (replicate z.width (blank_cell s.attribute)) (index z p)
          (omega (arith, left, lt))
          ∙ slice_get-drop z.width s.screen (index z p) ∙ ap (λ (n : ℕ). slice_get s.screen n) next;
      last = λ column lt.
          let at_column : index z (at z.lines column) ≡ length (drop z.width s.screen) + column = omega (arith, left) in
          ap (λ (n : ℕ). slice_get (scrolled z s).screen n) at_column
          ∙ slice_get-append_right (drop z.width s.screen) (replicate z.width (blank_cell s.attribute)) column
          ∙ slice_get-replicate z.width (blank_cell s.attribute) column lt;
      cursor = refl;
      others = same_others s (scrolled z s) refl refl refl;
    }

pub line_feed_scrolls : LineFeedScrolls
line_feed_scrolls z s h e = rw (eq-eqb s.cursor.row z.lines e) (scrolled_is z s h.fits.cells)

-- ---- a printed byte
-- a printed byte, and the cursor at the next position
printed_at : (z : Size) (s : State) (byte : ℕ) (next : Position) → IsWellFormed z s → NextPosition z s next
    → ChangesOneCell z s byte (record (printed z s byte) { cursor = next })
printed_at z s byte next h goes_on = record {
  printed = printed_cell z s h.fits byte;
  kept = λ p on other. cell_beside_printed z s h.fits byte p on other;
  cursor = goes_on;
  others = record { saved = refl; attribute = refl; wrap = refl };
}

pub glyph_prints : GlyphPrints
glyph_prints z s byte h stays = elim (cases_lt (s.cursor.column + 1) z.width) [
  | inl more ↦ rw (lt-ltb (s.cursor.column + 1) z.width more)
      (printed_at z s byte (at s.cursor.row (s.cursor.column + 1)) h (inl (more, refl)))
  | inr last ↦ rw (le-ltb (s.cursor.column + 1) z.width last)
      (wrapped s.wrap refl (omega (arith, h.fits.cursor.1)))
]
  where
    wrapped : (b : Bool) → s.wrap ≡ b → IsLastColumn z s.cursor.column
        → ChangesOneCell z s byte (if b then line_feed z (record (printed z s byte) { cursor = at s.cursor.row 0 }) else
        printed z s byte)
    wrapped true e last =
        let above : s.cursor.row ≢ z.lines = λ row. stays (row, last, e) in
        rw (line_feed_is z (record (printed z s byte) { cursor = at s.cursor.row 0 })
        (omega (arith, above, h.fits.cursor.0)))
        (printed_at z s byte (at (s.cursor.row + 1) 0) h (inr (inl (last, e, refl))))
    wrapped false e last = printed_at z s byte s.cursor h (inr (inr (last, e, refl)))

-- a printed byte, and then a scrolled screen
printed_and_scrolled : (z : Size) (s t : State) (byte : ℕ) → IsWellFormed z s → s.cursor.row ≡ z.lines
    → IsScrolled z (record (printed z s byte) { cursor = at s.cursor.row 0 }) t → IsPrintedAndScrolled z s byte t
printed_and_scrolled z s t byte h row scrolls = record {
  printed = λ p above.
      let below : at (p.row + 1) p.column ≡ s.cursor =
      same_position (at (p.row + 1) p.column) s.cursor above.0 above.1 in
      let on : p.column < z.width = omega (arith, above.1, h.fits.cursor.1) in
      scrolls.rows p (omega (arith, above.0, row), on) (omega (arith, above.0, row))
      ∙ ap (λ (q : Position). cell_at z (printed z s byte).screen q) below ∙ printed_cell z s h.fits byte;
  rows = λ p on lt other. scrolls.rows p on lt
      ∙ cell_beside_printed z s h.fits byte (at (p.row + 1) p.column) (omega (arith, lt), on.1)
      (λ e. other (ap (λ (q : Position). q.row) e, ap (λ (q : Position). q.column) e));
  last = scrolls.last;
  cursor = scrolls.cursor ∙ ap (λ (r : ℕ). at r 0) row;
  others = same_others s t scrolls.others.saved scrolls.others.attribute scrolls.others.wrap;
}

pub glyph_scrolls : GlyphScrolls
glyph_scrolls z s byte h (row, last, on) =
    rw (le-ltb (s.cursor.column + 1) z.width (omega (arith, last))) (wrapped s.wrap on)
  where
    wrapped : (b : Bool) → b ≡ true
        → IsPrintedAndScrolled z s byte (if b then line_feed z
        (record (printed z s byte) { cursor = at s.cursor.row 0 }) else printed z s byte)
    wrapped false e = absurd (cc)
    wrapped true e =
        let u : State = record (printed z s byte) { cursor = at s.cursor.row 0 } in
        let cells : length u.screen ≡ cell_count z =
        length-set s.screen (index z s.cursor) (cell byte s.attribute) ∙ h.fits.cells in
        rw (eq-eqb s.cursor.row z.lines row)
        (printed_and_scrolled z s (scrolled z u) byte h row (scrolled_is z u cells))
