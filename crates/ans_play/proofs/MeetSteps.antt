-- What two half-known states both know, through a token that has no fault in it.
use Rattle.std.proofs.Common.{◌≡◌, ℕ, ◌+◌, ◌<◌, ◌≤◌, min, Bool, true, false, refl, sym, ap, ◌∙◌, arith, List, length}
use Rattle.std.proofs.Common.{replicate, set, zip, inl, inr}
use Rattle.std.proofs.lemmas.Bool.{cases_lt, lt-ltb, le-ltb, eq-eqb}
use Rattle.std.proofs.lemmas.Slice.Zip.{length-zip}
use Rattle.std.proofs.lemmas.List.{length-map}
use Rattle.ans_model.specs.Bytes.{blank}
use Rattle.ans_model.specs.Sequence.TokenKind.{TokenKind, Glyph, BackSpace, LineFeed, CarriageReturn, Up, Down, Forward}
use Rattle.ans_model.specs.Sequence.TokenKind.{Backward, Place, Clear, EraseLine, Save, Restore, Colours, Wrap, Tab}
use Rattle.ans_model.specs.Screen.State.{Size, at, cell_count, index}
use Rattle.ans_model.specs.Screen.Step.{filled, next_row_start}
use Rattle.ans_model.specs.declared.cell.Position.{Position}
use Rattle.ans_model.proofs.PositionLemmas.{same_position}
use Rattle.ans_screen.specs.KnownBits.{KnownBits}
use Rattle.ans_screen.specs.HalfCells.{printed_cell}
use Rattle.ans_screen.specs.declared.cell.HalfCell.{HalfCell}
use Rattle.ans_play.specs.declared.span.Span.{Span}
use Rattle.ans_play.specs.declared.wrap.WrapMode.{WrapMode}
use Rattle.ans_play.specs.declared.wrap.WrapMode.TheVariants.{On, Off, Unknown}
use Rattle.ans_play.specs.HalfState.{HalfState, half_state, one_position, IsSpanOnScreen}
use Rattle.ans_play.specs.HalfStep.{after_move, half_blank, after_last_column, after_print, wrap_of, half_step}
use Rattle.ans_play.specs.Meet.{meet_bits, meet_cell, meet_screen, meet_span, meet_wrap, meet}
use Rattle.ans_play.proofs.Allowed.{IsOnePosition, IsAllowed}
use Rattle.ans_play.proofs.MeetAttributes.{AreBytes, meet_bytes, meet_after_all}
use Rattle.ans_play.proofs.PairedScreens.{paired-replicate, paired-set, paired-filled}
use Rattle.ans_play.proofs.SpanLemmas.{same_span}

-- ---- the parts
-- half-known states of equal parts are equal
pub same_half : {x y : List HalfCell} {c d s t : Span} {a b : KnownBits} {v w : WrapMode} → x ≡ y → c ≡ d → s ≡ t →
    a ≡ b → v ≡ w → half_state x c s a v ≡ half_state y d t b w
same_half p q r u e = cc

-- moved positions of both are the positions of both, moved
meet_after_move : (z : Size) (t : TokenKind) (p q : Span) →
    meet_span (after_move z t p) (after_move z t q) ≡ after_move z t (meet_span p q)
meet_after_move z (Up n) p q = same_span (omega arith) refl (omega arith) refl
meet_after_move z (Down n) p q = same_span (omega arith) refl (omega arith) refl
meet_after_move z (Forward n) p q = same_span refl (omega arith) refl (omega arith)
meet_after_move z (Backward n) p q = same_span refl (omega arith) refl (omega arith)
meet_after_move z (Place row column) p q = same_span (omega arith) (omega arith) (omega arith) (omega arith)
meet_after_move z BackSpace p q = same_span refl (omega arith) refl (omega arith)
meet_after_move z CarriageReturn p q = same_span refl (omega arith) refl (omega arith)
meet_after_move z _ p q = refl

-- one position in both is the position of both
meet_itself : (p : Position) →
    meet_span (one_position p.row p.column) (one_position p.row p.column) ≡ one_position p.row p.column
meet_itself p = same_span (omega arith) (omega arith) (omega arith) (omega arith)

-- after a byte in the last column
meet_wrapped : (z : Size) (v w : WrapMode) (p : Position) → p.column < z.width → z.width ≤ p.column + 1 →
    meet_span (after_last_column z v p) (after_last_column z w p) ≡ after_last_column z (meet_wrap v w) p
meet_wrapped z On On p on last = meet_itself (at (p.row + 1) 0)
meet_wrapped z Off Off p on last = meet_itself p
meet_wrapped z On Off p on last = same_span (omega arith) (omega arith) (omega arith) (omega arith)
meet_wrapped z On Unknown p on last = same_span (omega arith) (omega arith) (omega arith) (omega arith)
meet_wrapped z Off On p on last = same_span (omega arith) (omega arith) (omega arith) (omega arith)
meet_wrapped z Off Unknown p on last = same_span (omega arith) (omega arith) (omega arith) (omega arith)
meet_wrapped z Unknown On p on last = same_span (omega arith) (omega arith) (omega arith) (omega arith)
meet_wrapped z Unknown Off p on last = same_span (omega arith) (omega arith) (omega arith) (omega arith)
meet_wrapped z Unknown Unknown p on last = same_span (omega arith) (omega arith) (omega arith) (omega arith)

-- after any byte
meet_after_print : (z : Size) (v w : WrapMode) (p : Position) → p.column < z.width →
    meet_span (after_print z v p) (after_print z w p) ≡ after_print z (meet_wrap v w) p
meet_after_print z v w p on = elim (cases_lt (p.column + 1) z.width) [
  | inl more ↦ rw (lt-ltb (p.column + 1) z.width more) (meet_itself (at p.row (p.column + 1)))
  | inr last ↦ rw (le-ltb (p.column + 1) z.width last) (meet_wrapped z v w p on last)
]

meet_wrap_itself : (b : Bool) → meet_wrap (wrap_of b) (wrap_of b) ≡ wrap_of b
meet_wrap_itself true = refl
meet_wrap_itself false = refl

-- a byte printed in both is printed in what both know
meet_printed : (a b : KnownBits) (byte : ℕ) →
    meet_cell (printed_cell a byte) (printed_cell b byte) ≡ printed_cell (meet_bits a b) byte
meet_printed a b byte = rw (eq-eqb byte byte refl) refl

-- ---- a step
-- a half-known state of a machine's state
pub record FitsHalf (z : Size) (h : HalfState) : Type 0 where
  pub cells : length h.screen ≡ cell_count z
  pub cursor : IsSpanOnScreen z h.cursor
  pub bytes : AreBytes h.attribute

min_itself : (n : ℕ) → min n n ≡ n
min_itself n = omega arith

module _ (z : Size) (g h : HalfState) (fits_g : FitsHalf z g) (fits_h : FitsHalf z h) where
  -- what both know is of a machine's state too
  pub meet_fits : FitsHalf z (meet g h)
  meet_fits = record {
    cells = length-map (zip g.screen h.screen) _ ∙ length-zip g.screen h.screen
        ∙ omega (arith, fits_g.cells, fits_h.cells);
    cursor = record {
      rows = omega (arith, fits_g.cursor.rows);
      columns = omega (arith, fits_g.cursor.columns);
      on_screen = (
        omega (arith, fits_g.cursor.on_screen.0, fits_h.cursor.on_screen.0),
        omega (arith, fits_g.cursor.on_screen.1, fits_h.cursor.on_screen.1),
      );
    };
    bytes = meet_bytes g.attribute h.attribute fits_g.bytes fits_h.bytes;
  }

  -- where both together stand at one position, both stand there
  same_place : IsOnePosition (meet g h).cursor → h.cursor.low ≡ g.cursor.low
  same_place one =
      let row = ap (λ (p : Position). p.row) one in
      let column = ap (λ (p : Position). p.column) one in
      same_position h.cursor.low g.cursor.low
      (omega (arith, row, fits_g.cursor.rows, fits_h.cursor.rows))
      (omega (arith, column, fits_g.cursor.columns, fits_h.cursor.columns))

  -- a printed byte
  meet_put : (byte : ℕ) → IsOnePosition (meet g h).cursor →
      meet (half_step z g (Glyph byte)) (half_step z h (Glyph byte)) ≡ half_step z (meet g h) (Glyph byte)
  meet_put byte one =
      same_half
      (rw (same_place one, min_itself g.cursor.low.row, min_itself g.cursor.low.column)
      (paired-set meet_cell g.screen h.screen (index z g.cursor.low) (printed_cell g.attribute byte)
      (printed_cell h.attribute byte)
      ∙ ap (λ (x : HalfCell). set (meet_screen g.screen h.screen) (index z g.cursor.low) x)
      (meet_printed g.attribute h.attribute byte)))
      (rw (same_place one, min_itself g.cursor.low.row, min_itself g.cursor.low.column)
      (meet_after_print z g.wrap h.wrap g.cursor.low (omega (arith, fits_g.cursor.columns, fits_g.cursor.on_screen.1))))
      refl refl refl

  -- an erased line
  meet_erase : IsOnePosition (meet g h).cursor →
      meet (half_step z g EraseLine) (half_step z h EraseLine) ≡ half_step z (meet g h) EraseLine
  meet_erase one =
      same_half
      (rw (same_place one, min_itself g.cursor.low.row, min_itself g.cursor.low.column)
      (paired-filled meet_cell g.screen h.screen (index z g.cursor.low) (next_row_start z g.cursor.low)
      (half_blank g.attribute) (half_blank h.attribute) (fits_g.cells ∙ sym fits_h.cells)
      ∙ ap (λ (x : HalfCell). filled (meet_screen g.screen h.screen) (index z g.cursor.low)
      (next_row_start z g.cursor.low) x) (meet_printed g.attribute h.attribute blank)))
      refl refl refl refl

  -- a token that only moves the cursor
  meet_move : (t : TokenKind) →
      meet (record g { cursor = after_move z t g.cursor }) (record h { cursor = after_move z t h.cursor })
      ≡ record (meet g h) { cursor = after_move z t (meet g h).cursor }
  meet_move t = same_half refl (meet_after_move z t g.cursor h.cursor) refl refl refl

  -- a token that is played as one step
  pub meet_step : (t : TokenKind) → IsAllowed z (meet g h) t →
      meet (half_step z g t) (half_step z h t) ≡ half_step z (meet g h) t
  meet_step Clear k = same_half
      (paired-replicate meet_cell (cell_count z) (half_blank g.attribute) (half_blank h.attribute)
      ∙ ap (λ (x : HalfCell). replicate (cell_count z) x) (meet_printed g.attribute h.attribute blank))
      refl refl refl refl
  meet_step EraseLine k = meet_erase k
  meet_step Save k = refl
  meet_step Restore k = refl
  meet_step (Colours ps) k = same_half refl refl refl
      (meet_after_all g.attribute h.attribute ps fits_g.bytes fits_h.bytes) refl
  meet_step (Wrap on) k = same_half refl refl refl refl (meet_wrap_itself on)
  meet_step LineFeed k = same_half refl
      (same_span (omega arith) refl (omega arith) refl) refl refl refl
  meet_step (Glyph byte) k = meet_put byte k.0
  meet_step Tab k = absurd k
  meet_step t k = meet_move t
