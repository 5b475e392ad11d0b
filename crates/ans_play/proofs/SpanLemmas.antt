-- Where a cursor may stand: two spans that are one, a position within a span, and a move on the screen.
use Rattle.std.proofs.Common.{◌≡◌, ℕ, ◌≤◌, arith}
use Rattle.ans_model.specs.Sequence.TokenKind.{TokenKind, BackSpace, CarriageReturn, Up, Down, Forward, Backward, Place}
use Rattle.ans_model.specs.Screen.State.{Size, at, IsOnScreen}
use Rattle.ans_model.specs.declared.cell.Position.{Position}
use Rattle.ans_play.specs.declared.span.Span.{Span}
use Rattle.ans_play.specs.HalfState.{span, IsSpanOnScreen, DescribesPosition}
use Rattle.ans_play.specs.HalfStep.{after_move}

-- spans of the same ends are the same
pub same_span : {a b c d a' b' c' d' : ℕ} → a ≡ a' → b ≡ b' → c ≡ c' → d ≡ d' →
    span (at a b) (at c d) ≡ span (at a' b') (at c' d')
same_span p q r s = cc

-- a position whose row and column lie between the ends' is described
pub position_within : {s : Span} {p : Position} → s.low.row ≤ p.row → p.row ≤ s.high.row →
    s.low.column ≤ p.column → p.column ≤ s.high.column → DescribesPosition s p
position_within a b c d = record { low_row = a; high_row = b; low_column = c; high_column = d }

-- a span in order, up to a position on the screen
pub span_on_screen : {z : Size} {s : Span} → s.low.row ≤ s.high.row → s.low.column ≤ s.high.column →
    IsOnScreen z s.high → IsSpanOnScreen z s
span_on_screen a b c = record { rows = a; columns = b; on_screen = c }

-- a move keeps a cursor's span on the screen
pub after_move_on_screen : (z : Size) (t : TokenKind) (s : Span) → IsSpanOnScreen z s
    → IsSpanOnScreen z (after_move z t s)
after_move_on_screen z (Up n) s h =
    span_on_screen (omega (arith, h.rows)) h.columns (omega (arith, h.on_screen.0), h.on_screen.1)
after_move_on_screen z (Down n) s h =
    span_on_screen (omega (arith, h.rows)) h.columns (omega arith, h.on_screen.1)
after_move_on_screen z (Forward n) s h =
    span_on_screen h.rows (omega (arith, h.columns)) (h.on_screen.0, omega (arith, h.on_screen.1))
after_move_on_screen z (Backward n) s h =
    span_on_screen h.rows (omega (arith, h.columns)) (h.on_screen.0, omega (arith, h.on_screen.1))
after_move_on_screen z (Place row column) s h =
    span_on_screen (omega arith) (omega arith) (omega arith, omega (arith, h.on_screen.1))
after_move_on_screen z BackSpace s h =
    span_on_screen h.rows (omega (arith, h.columns)) (h.on_screen.0, omega (arith, h.on_screen.1))
after_move_on_screen z CarriageReturn s h =
    span_on_screen h.rows (omega arith) (h.on_screen.0, omega (arith, h.on_screen.1))
after_move_on_screen z _ s h = h
