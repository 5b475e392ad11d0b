-- What one token does to a half-known state, where it has no fault.
use Rattle.std.specs.Prelude.{ℕ, ◌+◌, ◌-◌, Bool, true, false, List, fold, replicate, set, if◌then◌else◌, nat_lt}
use Rattle.ans_model.specs.Bytes.{blank}
use Rattle.ans_model.specs.Sequence.TokenKind.{TokenKind, Glyph, LineFeed, Clear, EraseLine, Save, Restore, Colours}
use Rattle.ans_model.specs.Sequence.TokenKind.{Wrap, Tab}
use Rattle.ans_model.specs.Screen.State.{Size, at, cell_count, index}
use Rattle.ans_model.specs.declared.cell.Position.{Position}
use Rattle.ans_model.specs.Screen.Step.{filled, next_row_start, destination, tab_blanks}
use Rattle.ans_screen.specs.KnownBits.{KnownBits, known_after}
use Rattle.ans_screen.specs.HalfCells.{printed_cell}
use Rattle.ans_screen.specs.declared.cell.HalfCell.{HalfCell}
use Rattle.ans_play.specs.declared.span.Span.{Span}
use Rattle.ans_play.specs.declared.wrap.WrapMode.{WrapMode}
use Rattle.ans_play.specs.declared.wrap.WrapMode.TheVariants.{On, Off, Unknown}
use Rattle.ans_play.specs.HalfState.{HalfState, span, one_position}

-- what is known after one parameter after the other
abbrev pub known_after_all : KnownBits → List ℕ → KnownBits
known_after_all attribute parameters = fold known_after attribute parameters

-- a blank of a half-known attribute
abbrev pub half_blank : KnownBits → HalfCell
half_blank attribute = printed_cell attribute blank

-- a token that only moves the cursor moves both ends
abbrev pub after_move : Size → TokenKind → Span → Span
after_move z t s = span (destination z t s.low) (destination z t s.high)

-- one row down, above the spare row
abbrev pub one_row_down : Span → Span
one_row_down s = span (at (s.low.row + 1) s.low.column) (at (s.high.row + 1) s.high.column)

-- Where the cursor may be after a byte in the last column. If wrap is unknown, it is there or in the next row's first
-- column.
abbrev pub after_last_column : Size → WrapMode → Position → Span
after_last_column z On p = one_position (p.row + 1) 0
after_last_column z Off p = one_position p.row p.column
after_last_column z Unknown p = span (at p.row 0) (at (p.row + 1) (z.width - 1))

-- where the cursor may be after a byte at one position
abbrev pub after_print : Size → WrapMode → Position → Span
after_print z wrap p =
    if nat_lt (p.column + 1) z.width then one_position p.row (p.column + 1) else after_last_column z wrap p

-- wrap that is known
abbrev pub wrap_of : Bool → WrapMode
wrap_of true = On
wrap_of false = Off

-- a byte is printed at one position, and the cursor goes on
abbrev pub half_put : Size → HalfState → ℕ → HalfState
half_put z h byte = record h {
  screen = set h.screen (index z h.cursor.low) (printed_cell h.attribute byte);
  cursor = after_print z h.wrap h.cursor.low;
}

-- n blanks are printed, one after the other
abbrev pub half_blanks : Size → HalfState → ℕ → HalfState
half_blanks z h n = fold (half_put z) h (replicate n blank)

-- the state after one token
abbrev pub half_step : Size → HalfState → TokenKind → HalfState
half_step z h Clear = record h { screen = replicate (cell_count z) (half_blank h.attribute); cursor = one_position 0 0 }
half_step z h EraseLine =
    record h {
      screen = filled h.screen (index z h.cursor.low) (next_row_start z h.cursor.low)
          (half_blank h.attribute);
    }
half_step z h Save = record h { saved = h.cursor }
half_step z h Restore = record h { cursor = h.saved }
half_step z h (Colours parameters) = record h { attribute = known_after_all h.attribute parameters }
half_step z h (Wrap on) = record h { wrap = wrap_of on }
half_step z h LineFeed = record h { cursor = one_row_down h.cursor }
half_step z h (Glyph byte) = half_put z h byte
half_step z h Tab = half_blanks z h (tab_blanks h.cursor.low.column)
half_step z h t = record h { cursor = after_move z t h.cursor }
