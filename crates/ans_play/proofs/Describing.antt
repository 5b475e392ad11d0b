-- A half-known state that describes a state describes it after a token too, where the token has no fault.
use Rattle.std.proofs.Common.{◌≡◌, ℕ, ◌+◌, ◌<◌, Bool, true, false, refl, sym, ap, arith, inl, inr}
use Rattle.std.specs.Prelude.{if◌then◌else◌, nat_lt}
use Rattle.std.specs.List.{AllZip}
use Rattle.std.proofs.lemmas.Bool.{cases_lt, lt-ltb, le-ltb}
use Rattle.ans_model.specs.Sequence.TokenKind.{TokenKind, Glyph, BackSpace, LineFeed, CarriageReturn, Up, Down, Forward}
use Rattle.ans_model.specs.Sequence.TokenKind.{Backward, Place, Clear, EraseLine, Save, Restore, Colours, Wrap, Tab}
use Rattle.ans_model.specs.Screen.State.{Size, State, at, cell, cell_count, index, IsOnScreen}
use Rattle.ans_model.specs.declared.cell.Position.{Position}
use Rattle.ans_model.proofs.PositionLemmas.{same_position}
use Rattle.ans_model.proofs.StepLemmas.{line_feed_is, advanced_is}
use Rattle.ans_model.specs.Screen.Step.{blank_cell, next_row_start, destination, printed, advanced, step}
use Rattle.ans_screen.specs.KnownBits.{KnownBits, Agrees}
use Rattle.ans_screen.specs.HalfCells.{printed_cell}
use Rattle.ans_play.specs.declared.span.Span.{Span}
use Rattle.ans_play.specs.declared.wrap.WrapMode.{WrapMode}
use Rattle.ans_play.specs.declared.wrap.WrapMode.TheVariants.{On, Off, Unknown}
use Rattle.ans_play.specs.HalfState.{HalfState, one_position, DescribesCell, DescribesPosition, DescribesWrap}
use Rattle.ans_play.specs.HalfState.{Describes}
use Rattle.ans_play.specs.HalfStep.{half_blank, after_move, after_last_column, after_print, wrap_of, half_step}
use Rattle.ans_play.proofs.Allowed.{IsOnePosition, IsAllowed}
use Rattle.ans_play.proofs.MeetAttributes.{agrees_after_all}
use Rattle.ans_play.proofs.SpanLemmas.{position_within}
use Rattle.ans_play.proofs.Zips.{AllZip-replicate, AllZip-set, AllZip-filled}

-- a described position of one end is that end
pub one_position_is : (e : Span) (p : Position) → DescribesPosition e p → IsOnePosition e → p ≡ e.low
one_position_is e p d same =
    same_position p e.low
    (omega (arith, d.low_row, d.high_row, ap (λ (q : Position). q.row) same))
    (omega (arith, d.low_column, d.high_column, ap (λ (q : Position). q.column) same))

-- a position lies in its own span
describes_itself : (p : Position) → DescribesPosition (one_position p.row p.column) p
describes_itself p = position_within (omega arith) (omega arith) (omega arith) (omega arith)

-- each token moves a greater row or column to one no smaller
after_move_describes : (z : Size) (t : TokenKind) (e : Span) (p : Position) → DescribesPosition e p →
    DescribesPosition (after_move z t e) (destination z t p)
after_move_describes z (Up n) e p d = position_within (omega arith) (omega arith) d.low_column d.high_column
after_move_describes z (Down n) e p d = position_within (omega arith) (omega arith) d.low_column d.high_column
after_move_describes z (Forward n) e p d = position_within d.low_row d.high_row (omega arith) (omega arith)
after_move_describes z (Backward n) e p d = position_within d.low_row d.high_row (omega arith) (omega arith)
after_move_describes z (Place row column) e p d =
    position_within (omega arith) (omega arith) (omega arith) (omega arith)
after_move_describes z BackSpace e p d = position_within d.low_row d.high_row (omega arith) (omega arith)
after_move_describes z CarriageReturn e p d = position_within d.low_row d.high_row (omega arith) (omega arith)
after_move_describes z _ e p d = d

-- a state is described by its parts
described : {h : HalfState} {s : State} → AllZip DescribesCell h.screen s.screen →
    DescribesPosition h.cursor s.cursor → DescribesPosition h.saved s.saved → Agrees h.attribute s.attribute →
    DescribesWrap h.wrap s.wrap → Describes h s
described a b c d e = record { screen = a; cursor = b; saved = c; attribute = d; wrap = e }

blank_describes : (a : KnownBits) (c : ℕ) → Agrees a c → DescribesCell (half_blank a) (blank_cell c)
blank_describes a c e = (refl, e)

erase_describes : (z : Size) (h : HalfState) (s : State) → Describes h s → IsOnePosition h.cursor →
    Describes (half_step z h EraseLine) (step z s EraseLine)
erase_describes z h s d same =
    described
    (rw (one_position_is h.cursor s.cursor d.cursor same) (AllZip-filled DescribesCell h.screen s.screen
    (index z h.cursor.low) (next_row_start z h.cursor.low) (half_blank h.attribute) (blank_cell s.attribute) d.screen
    (blank_describes h.attribute s.attribute d.attribute)))
    d.cursor d.saved d.attribute d.wrap

-- where the cursor stands after a byte printed above the spare row
unfoldable pub next_position : Size → Bool → Position → Position
next_position z wrap p =
    if nat_lt (p.column + 1) z.width then at p.row (p.column + 1)
    else if wrap then at (p.row + 1) 0
    else p

-- above the spare row a printed byte only moves the cursor on
pub advance_is : (z : Size) (s : State) → s.cursor.row < z.lines →
    advanced z s ≡ record s { cursor = next_position z s.wrap s.cursor }
unfolding next_position
advance_is z s h = advanced_is z s h

-- the ends after a printed byte hold each position that it may leave
next_describes : (z : Size) (h : WrapMode) (w : Bool) (p : Position) → p.column < z.width → DescribesWrap h w →
    DescribesPosition (after_print z h p) (next_position z w p)
unfolding next_position
next_describes z h w p on e = elim (cases_lt (p.column + 1) z.width) [
  | inl more ↦ rw (lt-ltb (p.column + 1) z.width more) (describes_itself (at p.row (p.column + 1)))
  | inr last ↦ rw (le-ltb (p.column + 1) z.width last) (wrapped h w e)
]
  where
    wrapped : (h : WrapMode) (w : Bool) → DescribesWrap h w →
        DescribesPosition (after_last_column z h p) (if w then at (p.row + 1) 0 else p)
    wrapped On w e = rw e (describes_itself (at (p.row + 1) 0))
    wrapped Off w e = rw e (describes_itself p)
    wrapped Unknown true e = position_within (omega arith) (omega arith) (omega arith) (omega arith)
    wrapped Unknown false e = position_within (omega arith) (omega arith) (omega arith) (omega arith)

print_describes : (z : Size) (h : HalfState) (s : State) (b : ℕ) → IsOnScreen z s.cursor → Describes h s →
    IsOnePosition h.cursor → h.cursor.low.row < z.lines → Describes (half_step z h (Glyph b)) (step z s (Glyph b))
print_describes z h s b on d same above =
    let here : h.cursor.low ≡ s.cursor = sym (one_position_is h.cursor s.cursor d.cursor same) in
    let row : s.cursor.row < z.lines = rw here at above in
    rw (here, advance_is z (printed z s b) row)
    (described
    (AllZip-set DescribesCell h.screen s.screen (index z s.cursor) (printed_cell h.attribute b) (cell b s.attribute)
    d.screen (refl, d.attribute))
    (next_describes z h.wrap s.wrap s.cursor on.1 d.wrap) d.saved d.attribute d.wrap)

wrap_describes : (on : Bool) → DescribesWrap (wrap_of on) on
wrap_describes true = refl
wrap_describes false = refl

pub step_describes : (z : Size) (h : HalfState) (s : State) (t : TokenKind) → IsOnScreen z s.cursor → Describes h s →
    IsAllowed z h t → Describes (half_step z h t) (step z s t)
step_describes z h s Clear on d k =
    described (AllZip-replicate DescribesCell (cell_count z) _ _ (blank_describes h.attribute s.attribute d.attribute))
    (describes_itself (at 0 0)) d.saved d.attribute d.wrap
step_describes z h s EraseLine on d k = erase_describes z h s d k
step_describes z h s Save on d k = described d.screen d.cursor d.cursor d.attribute d.wrap
step_describes z h s Restore on d k = described d.screen d.saved d.saved d.attribute d.wrap
step_describes z h s (Colours ps) on d k =
    described d.screen d.cursor d.saved (agrees_after_all h.attribute s.attribute ps d.attribute) d.wrap
step_describes z h s (Wrap b) on d k = described d.screen d.cursor d.saved d.attribute (wrap_describes b)
step_describes z h s LineFeed on d k =
    rw (line_feed_is z s (omega (arith, d.cursor.high_row)))
    (described d.screen (position_within (omega (arith, d.cursor.low_row)) (omega (arith, d.cursor.high_row))
    d.cursor.low_column d.cursor.high_column) d.saved d.attribute d.wrap)
step_describes z h s (Glyph b) on d k = print_describes z h s b on d k.0 k.1
step_describes z h s Tab on d k = absurd k
step_describes z h s t on d k =
    described d.screen (after_move_describes z t h.cursor s.cursor d.cursor) d.saved d.attribute d.wrap
