-- What is known of the starts of a class.
use Rattle.std.specs.Prelude.{◌-◌, Bool, Some, None, replicate, if◌then◌else◌}
use Rattle.ans_model.specs.Bytes.{blank}
use Rattle.ans_model.specs.Screen.State.{Size, at, cell_count}
use Rattle.ans_model.specs.declared.start.Start.{Start}
use Rattle.ans_screen.specs.KnownBits.{KnownBits, known_bits}
use Rattle.ans_screen.specs.HalfCells.{half_cell}
use Rattle.ans_screen.specs.declared.cell.HalfCell.{HalfCell}
use Rattle.ans_play.specs.declared.span.Span.{Span}
use Rattle.ans_play.specs.declared.wrap.WrapMode.{WrapMode}
use Rattle.ans_play.specs.declared.wrap.WrapMode.TheVariants.{On, Unknown}
use Rattle.ans_play.specs.HalfState.{HalfState, half_state, span, one_position}

-- a cell of the screen: a blank of white on black, if it is known
abbrev pub start_cell : Bool → HalfCell
start_cell known =
    if known then half_cell (Some blank) (known_bits 0xFF 0x07) else half_cell None (known_bits 0x00 0x00)

-- where a cursor is: at the top left if it is known, and otherwise anywhere
abbrev pub start_span : Size → Bool → Span
start_span z known = if known then one_position 0 0 else span (at 0 0) (at z.lines (z.width - 1))

-- the current attribute: white on black, if it is known
abbrev pub start_attribute : Bool → KnownBits
start_attribute known = if known then known_bits 0xFF 0x07 else known_bits 0x00 0x00

-- wrap: on, if it is known
abbrev pub start_wrap : Bool → WrapMode
start_wrap known = if known then On else Unknown

-- part by part
abbrev pub half_start : Size → Start → HalfState
half_start z class =
    half_state
    (replicate (cell_count z) (start_cell class.screen))
    (start_span z class.cursor)
    (start_span z class.saved)
    (start_attribute class.colours)
    (start_wrap class.wrap)
