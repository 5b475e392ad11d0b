-- A state of which parts are known, and the states that it describes.
use Rattle.std.specs.Prelude.{◌≡◌, ℕ, ◌≤◌, Bool, true, false, List, IfSome}
use Rattle.std.specs.List.{AllZip}
use Rattle.ans_model.specs.Screen.State.{Size, State, at, IsOnScreen}
use Rattle.ans_model.specs.declared.cell.Cell.{Cell}
use Rattle.ans_model.specs.declared.cell.Position.{Position}
use Rattle.ans_screen.specs.KnownBits.{KnownBits, Agrees}
use Rattle.ans_screen.specs.declared.cell.HalfCell.{HalfCell}
use Rattle.ans_play.specs.declared.span.Span.{Span}
use Rattle.ans_play.specs.declared.wrap.WrapMode.{WrapMode}
use Rattle.ans_play.specs.declared.wrap.WrapMode.TheVariants.{On, Off, Unknown}

-- the cells in row order, where the cursor and the saved cursor may be, what is known of the current attribute and of
-- wrap
pub record HalfState : Type 0 where
  pub screen : List HalfCell
  pub cursor : Span
  pub saved : Span
  pub attribute : KnownBits
  pub wrap : WrapMode

-- the state of these parts
abbrev pub half_state : List HalfCell → Span → Span → KnownBits → WrapMode → HalfState
half_state screen cursor saved attribute wrap =
    record { screen = screen; cursor = cursor; saved = saved; attribute = attribute; wrap = wrap }

-- the span from a lowest position to a highest
abbrev pub span : Position → Position → Span
span low high = record { low = low; high = high }

-- the span of one position
abbrev pub one_position : ℕ → ℕ → Span
one_position row column = span (at row column) (at row column)

-- the lowest row and column are not above the highest, which are on the screen
pub record IsSpanOnScreen (z : Size) (s : Span) : Type 0 where
  pub rows : s.low.row ≤ s.high.row
  pub columns : s.low.column ≤ s.high.column
  pub on_screen : IsOnScreen z s.high

-- the byte, where it is known, and the known bits of the attribute are the cell's
abbrev pub DescribesCell : HalfCell → Cell → Type 0
DescribesCell h c = IfSome h.glyph (λ byte. c.byte ≡ byte) × Agrees h.attr c.attribute

-- the row and the column lie between the lowest and the highest
pub record DescribesPosition (s : Span) (p : Position) : Type 0 where
  pub low_row : s.low.row ≤ p.row
  pub high_row : p.row ≤ s.high.row
  pub low_column : s.low.column ≤ p.column
  pub high_column : p.column ≤ s.high.column

-- wrap is as it is known to be
abbrev pub DescribesWrap : WrapMode → Bool → Type 0
DescribesWrap On wrap = wrap ≡ true
DescribesWrap Off wrap = wrap ≡ false
DescribesWrap Unknown wrap = Unit {0}

-- each part of the state is as far as it is known
pub record Describes (h : HalfState) (s : State) : Type 0 where
  pub screen : AllZip DescribesCell h.screen s.screen
  pub cursor : DescribesPosition h.cursor s.cursor
  pub saved : DescribesPosition h.saved s.saved
  pub attribute : Agrees h.attribute s.attribute
  pub wrap : DescribesWrap h.wrap s.wrap
