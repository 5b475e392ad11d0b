-- The fault that a half-known state shows at a token.
use Rattle.std.specs.Prelude.{ℕ, zero, suc, ◌+◌, ◌&&◌, ◌||◌, Bool, Option, Some, None, if◌then◌else◌, nat_lt, ◌==◌}
use Rattle.ans_model.specs.Sequence.TokenKind.{TokenKind, Glyph, LineFeed, EraseLine, Tab, Place, Mode, Keys, Ask}
use Rattle.std.specs.Option.{option_or}
use Rattle.ans_model.specs.Bytes.{blank}
use Rattle.ans_model.specs.Screen.State.{Size}
use Rattle.ans_model.specs.Screen.Step.{tab_blanks}
use Rattle.ans_model.specs.declared.fault.Cause.{Cause}
use Rattle.ans_model.specs.declared.fault.Cause.TheVariants.{KeyReassigned, ScreenMode, ReportAsked}
use Rattle.ans_model.specs.declared.fault.Cause.TheVariants.{OutsideScreen, PrintBelow, Scrolls, PrintUnknownPlace}
use Rattle.ans_model.specs.declared.fault.Cause.TheVariants.{EraseUnknownPlace, MayScroll}
use Rattle.ans_play.specs.declared.span.Span.{Span}
use Rattle.ans_play.specs.HalfState.{HalfState}
use Rattle.ans_play.specs.HalfStep.{half_put}

-- the lowest and the highest row and column are the same
abbrev pub is_one_position : Span → Bool
is_one_position s = s.low.row == s.high.row && s.low.column == s.high.column

-- the fault that the state shows at a printed byte
abbrev pub half_print_fault : Size → HalfState → Option Cause
half_print_fault z h =
    if is_one_position h.cursor then (if h.cursor.low.row == z.lines then Some PrintBelow else None)
    else Some PrintUnknownPlace

-- the fault that the state shows at the first of n blanks that has one
abbrev pub half_blanks_fault : Size → HalfState → ℕ → Option Cause
half_blanks_fault z h zero = None
half_blanks_fault z h (suc n) = option_or (half_print_fault z h) (half_blanks_fault z (half_put z h blank) n)

-- the fault that the state shows at a token, if it shows one
abbrev pub half_fault : Size → HalfState → TokenKind → Option Cause
half_fault z h Keys = Some KeyReassigned
half_fault z h Mode = Some ScreenMode
half_fault z h Ask = Some ReportAsked
half_fault z h Tab = half_blanks_fault z h (tab_blanks h.cursor.low.column)
half_fault z h (Place row column) =
    if nat_lt (z.lines + 1) row || nat_lt z.width column then Some OutsideScreen else None
half_fault z h (Glyph byte) = half_print_fault z h
half_fault z h EraseLine = if is_one_position h.cursor then None else Some EraseUnknownPlace
half_fault z h LineFeed =
    if nat_lt h.cursor.high.row z.lines then None
    else if h.cursor.low.row == z.lines then Some Scrolls
    else Some MayScroll
half_fault z h _ = None
