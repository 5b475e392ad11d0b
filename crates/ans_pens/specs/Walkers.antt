-- What the walkers that look for lines and for moves have found so far. Only private contracts cite it.
use Rattle.std.specs.Prelude.{◌≡◌, ℕ, ◌+◌, ◌<◌, ◌≤◌, Bool, true, false, List, All}
use Rattle.ans_model.specs.Sequence.TokenKind.{TokenKind, PrintsByte, Glyph, Tab, LineFeed, Up, Down, Place}
use Rattle.ans_model.specs.Sequence.TokenKind.{Mode, Keys, Ask}
use Rattle.ans_model.specs.Screen.State.{Size, State}
use Rattle.ans_model.specs.Screen.StartClass.{all_known, cleared, low_start, high_start}
use Rattle.ans_model.specs.Screen.Step.{final}
use Rattle.ans_model.specs.Verdict.TokenFault.{FromEvery, IsClean}
use Rattle.ans_model.specs.Verdict.TwoStarts.{low_final, high_final}
use Rattle.ans_model.specs.declared.cell.Position.{Position}
use Rattle.ans_model.specs.declared.start.Start.{Start}
use Rattle.ans_pens.specs.Pens.{before_last_blank, pen_of}
use Rattle.ans_pens.specs.Taller.{MovesFreely, SameRow}
use Rattle.ans_pens.specs.declared.lines.ClearedPlay.{ClearedPlay}
use Rattle.ans_pens.specs.declared.pen.Pen.{Pen}
use Rattle.ans_pens.specs.declared.taller.Moves.{Moves}

-- ---- lines

-- in this state of a play from the cleared start the token has no fault
abbrev pub IsFaultless : Size → State → TokenKind → Type 0
IsFaultless z s (Glyph byte) = s.cursor.row < z.lines
IsFaultless z s LineFeed = s.cursor.row < z.lines
IsFaultless z s Tab = (before_last_blank z s).cursor.row < z.lines
IsFaultless z s (Place row column) = (row ≤ z.lines + 1) × (column ≤ z.width)
IsFaultless z s Keys = ⊥
IsFaultless z s Mode = ⊥
IsFaultless z s Ask = ⊥
IsFaultless z s _ = Unit {0}

-- the play of the tokens from the cleared start has this pen, and none of them has a fault; or else one has
abbrev pub IsPlayed : Size → List TokenKind → Bool → Pen → Type 0
IsPlayed z tokens true pen = IsClean z all_known tokens × (pen ≡ pen_of (final z (cleared z) tokens))
IsPlayed z tokens false pen = ¬ IsClean z all_known tokens

-- over these tokens the first play has become the other, which goes on or stops
abbrev pub HasPlayed : ClearedPlay → List TokenKind → Bool → ClearedPlay → Type 0
HasPlayed first tokens goes_on now = (now.size ≡ first.size) × IsPlayed first.size tokens goes_on now.pen

-- this many bytes that are printed next stay in their row, which is a stated one
pub record StaysAbove (play : ClearedPlay) (count : ℕ) : Type 0 where
  pub above : play.pen.cursor.row < play.size.lines
  pub stays : play.pen.cursor.column + count < play.size.width

-- ---- moves

-- after these tokens the token is no move up or down, or a free one
abbrev pub IsFreeAfter : Size → Start → List TokenKind → TokenKind → Type 0
IsFreeAfter z class played (Down n) = FromEvery z class (λ s. (final z s played).cursor.row + n ≤ z.lines)
IsFreeAfter z class played (Up n) = SameRow z class played
IsFreeAfter z class played _ = Unit {0}

-- so two cursors show it
abbrev pub IsFreeBetween : Size → Position → Position → TokenKind → Type 0
IsFreeBetween z low high (Down n) = (low.row + n ≤ z.lines) × (high.row + n ≤ z.lines)
IsFreeBetween z low high (Up n) = low.row ≡ high.row
IsFreeBetween z low high _ = Unit {0}

-- The moves of the tokens are free, and so the plays from the low and the high start have these pens; or else one is
-- not.
abbrev pub MoveFreelyTo : Size → Start → List TokenKind → Bool → Pen → Pen → Type 0
MoveFreelyTo z class tokens true low high = MovesFreely z class tokens
    × (low ≡ pen_of (low_final z class tokens)) × (high ≡ pen_of (high_final z class tokens))
MoveFreelyTo z class tokens false low high = ¬ MovesFreely z class tokens

-- over these tokens, where they are clean, the first has become the other, which goes on or stops
pub record HasMoved (first : Moves) (tokens : List TokenKind) (goes_on : Bool) (now : Moves) : Type 0 where
  pub size : now.size ≡ first.size
  pub moved : (class : Start) → first.low ≡ pen_of (low_start first.size class)
      → first.high ≡ pen_of (high_start first.size class) → All PrintsByte tokens → IsClean first.size class tokens
      → MoveFreelyTo first.size class tokens goes_on now.low now.high

-- this many bytes that are printed next stay in the rows of both plays
pub record StayInRows (moves : Moves) (count : ℕ) : Type 0 where
  pub low : moves.low.cursor.column + count < moves.size.width
  pub high : moves.high.cursor.column + count < moves.size.width
