-- Where a token has none of the faults that depend on the position.
use Rattle.std.specs.Prelude.{◌≡◌, ◌<◌}
use Rattle.ans_model.specs.Sequence.TokenKind.{TokenKind, Glyph, LineFeed, Tab, EraseLine}
use Rattle.ans_model.specs.Screen.State.{Size}
use Rattle.ans_play.specs.declared.span.Span.{Span}
use Rattle.ans_play.specs.HalfState.{HalfState}

-- the lowest and the highest position are the same
abbrev pub IsOnePosition : Span → Type 0
IsOnePosition s = s.low ≡ s.high

-- a token that is played as one step: any but a tab, which is played as its blanks
abbrev pub IsOneStep : TokenKind → Type 0
IsOneStep Tab = ⊥
IsOneStep _ = Unit {0}

-- a glyph and an erasure want one position, a glyph and a line feed a row above the spare row
abbrev pub IsAllowed : Size → HalfState → TokenKind → Type 0
IsAllowed z h (Glyph byte) = IsOnePosition h.cursor × (h.cursor.low.row < z.lines)
IsAllowed z h EraseLine = IsOnePosition h.cursor
IsAllowed z h LineFeed = h.cursor.high.row < z.lines
IsAllowed z h Tab = ⊥
IsAllowed z h _ = Unit {0}
