-- The fault that a token has after the tokens played before it.
use Rattle.std.specs.Prelude.{◌≡◌, ◌≢◌, ℕ, ◌+◌, ◌<◌, ◌⊎◌, List, ◌++◌, take, slice_get, replicate, Some}
use Rattle.ans_model.specs.Bytes.{blank}
use Rattle.ans_model.specs.Sequence.TokenKind.{TokenKind, Glyph, LineFeed, EraseLine, Tab, Place, Mode, Keys, Ask}
use Rattle.ans_model.specs.Screen.State.{Size, State}
use Rattle.ans_model.specs.Screen.Step.{final, tab_blanks}
use Rattle.ans_model.specs.Screen.StartClass.{IsStart}
use Rattle.ans_model.specs.declared.start.Start.{Start}
use Rattle.ans_model.specs.declared.fault.Cause.{Cause}
use Rattle.ans_model.specs.declared.fault.Cause.TheVariants.{KeyReassigned, ScreenMode, ReportAsked}
use Rattle.ans_model.specs.declared.fault.Cause.TheVariants.{OutsideScreen, PrintBelow, Scrolls, PrintUnknownPlace}
use Rattle.ans_model.specs.declared.fault.Cause.TheVariants.{EraseUnknownPlace, MayScroll}

-- a fault that a token has wherever it occurs
abbrev pub HasStaticFault : Size → TokenKind → Cause → Type 0
HasStaticFault z Keys KeyReassigned = Unit {0}
HasStaticFault z Mode ScreenMode = Unit {0}
HasStaticFault z Ask ReportAsked = Unit {0}
HasStaticFault z (Place row column) OutsideScreen = (z.lines + 1 < row) ⊎ (z.width < column)
HasStaticFault z _ _ = ⊥

-- P holds from every start of the class
abbrev pub FromEvery : Size → Start → (State → Type 0) → Type 0
FromEvery z class P = (s : State) → IsStart z class s → P s

-- P holds from some start of the class
abbrev pub FromSome : Size → Start → (State → Type 0) → Type 0
FromSome z class P = (s : State) × IsStart z class s × P s

-- after these tokens the cursor is the same from every start
abbrev pub SamePosition : Size → Start → List TokenKind → Type 0
SamePosition z class played =
    (s t : State) → IsStart z class s → IsStart z class t → (final z s played).cursor ≡ (final z t played).cursor

-- after these tokens the cursor differs between two starts
abbrev pub PositionsDiffer : Size → Start → List TokenKind → Type 0
PositionsDiffer z class played =
    (s t : State) × IsStart z class s × IsStart z class t × ((final z s played).cursor ≢ (final z t played).cursor)

-- after these tokens from this start, the cursor is in the spare row
abbrev pub IsInSpareRow : Size → List TokenKind → State → Type 0
IsInSpareRow z played start = (final z start played).cursor.row ≡ z.lines

-- a byte printed after these tokens has this fault
abbrev pub HasPrintFault : Size → Start → List TokenKind → Cause → Type 0
HasPrintFault z class played PrintUnknownPlace = PositionsDiffer z class played
HasPrintFault z class played PrintBelow = SamePosition z class played × FromEvery z class (IsInSpareRow z played)
HasPrintFault z class played _ = ⊥

-- these tokens, and then n blanks
abbrev pub then_blanks : List TokenKind → ℕ → List TokenKind
then_blanks played n = played ++ replicate n (Glyph blank)

-- after these tokens from this start, a tab prints more than n blanks
abbrev pub TabGoesOn : Size → List TokenKind → ℕ → State → Type 0
TabGoesOn z played n start = n < tab_blanks (final z start played).cursor.column

-- A tab has the fault of the first of its blanks that has one.
pub record HasTabFault (z : Size) (class : Start) (played : List TokenKind) (cause : Cause) : Type 0 where
  pub blanks_before : ℕ
  pub goes_on : FromEvery z class (TabGoesOn z played blanks_before)
  pub earlier : (n : ℕ) (c : Cause) → n < blanks_before → ¬ HasPrintFault z class (then_blanks played n) c
  pub fault : HasPrintFault z class (then_blanks played blanks_before) cause

-- a fault that depends on what was played before the token
abbrev pub HasFaultAfter : Size → Start → List TokenKind → TokenKind → Cause → Type 0
HasFaultAfter z class played (Glyph byte) cause = HasPrintFault z class played cause
HasFaultAfter z class played Tab cause = HasTabFault z class played cause
HasFaultAfter z class played EraseLine EraseUnknownPlace = PositionsDiffer z class played
HasFaultAfter z class played LineFeed Scrolls = FromEvery z class (IsInSpareRow z played)
HasFaultAfter z class played LineFeed MayScroll =
    FromSome z class (IsInSpareRow z played) × FromSome z class (λ s. ¬ IsInSpareRow z played s)
HasFaultAfter z class played _ _ = ⊥

-- the token has this fault after the tokens played
abbrev pub HasFault : Size → Start → List TokenKind → TokenKind → Cause → Type 0
HasFault z class played t cause = HasStaticFault z t cause ⊎ HasFaultAfter z class played t cause

-- token k, counted from 0, has this fault
abbrev pub Blames : Size → Start → List TokenKind → ℕ → Cause → Type 0
Blames z class tokens k cause = (t : TokenKind) × (slice_get tokens k ≡ Some t)
    × HasFault z class (take k tokens) t cause

-- no token has a fault
abbrev pub IsClean : Size → Start → List TokenKind → Type 0
IsClean z class tokens = (k : ℕ) (cause : Cause) → ¬ Blames z class tokens k cause
