-- What is kept of a state: all but its screen, and of that the cell at one position.
use Rattle.std.specs.Prelude.{◌≡◌, ℕ, ◌<◌, Bool, IsTrue, List, [], fold, replicate, unwrap_or, ⊤}
use Rattle.ans_model.specs.Bytes.{blank}
use Rattle.ans_model.specs.Sequence.TokenKind.{TokenKind, Glyph, LineFeed, Tab}
use Rattle.ans_model.specs.Screen.State.{Size, State, cell_at}
use Rattle.ans_model.specs.Screen.Step.{blank_cell, put, tab_blanks}
use Rattle.ans_model.specs.declared.cell.Position.{Position}
use Rattle.ans_model.specs.declared.start.Start.{Start}
use Rattle.ans_model.specs.Verdict.TokenFault.{IsClean}
use Rattle.ans_model.specs.Verdict.TwoStarts.{low_final, high_final}
use Rattle.ans_pens.specs.Pens.{pen_of, StandsOn}
use Rattle.ans_pens.specs.declared.cell_play.CellPlay.{CellPlay}
use Rattle.ans_pens.specs.declared.evidence.CellWalk.{CellWalk}
use Rattle.ans_pens.specs.declared.two_cell_plays.TwoCellPlays.{TwoCellPlays}

-- what is kept of a state at this position, which has a cell if it is on the screen
abbrev pub kept : Size → Position → State → CellPlay
kept z p s = record {
  pen = pen_of s;
  cell = unwrap_or (cell_at z s.screen p) (blank_cell 0x07);
}

-- a line feed comes, and each byte is printed, above the spare row; so the screen does not scroll
abbrev pub WritesAbove : Size → State → TokenKind → Type 0
WritesAbove z s LineFeed = s.cursor.row < z.lines
WritesAbove z s (Glyph byte) = s.cursor.row < z.lines
WritesAbove z s Tab = (n : ℕ) → n < tab_blanks s.cursor.column
    → (fold (put z) s (replicate n blank)).cursor.row < z.lines
WritesAbove z s _ = ⊤

-- both cursors of both plays are on the screen
pub record BothStandOn (z : Size) (w : TwoCellPlays) : Type 0 where
  pub low : StandsOn z w.low.pen
  pub high : StandsOn z w.high.pen

-- what is kept of the plays of these tokens from the low and the high start
pub record AreKept (z : Size) (class : Start) (p : Position) (tokens : List TokenKind)
    (w : TwoCellPlays) : Type 0 where
  pub low : w.low ≡ kept z p (low_final z class tokens)
  pub high : w.high ≡ kept z p (high_final z class tokens)

-- Over these tokens the first has become the other, which goes on: it keeps the same cell of the same screen, and
-- where the tokens are clean, the plays of them.
pub record HasKept (first : CellWalk) (tokens : List TokenKind) (goes_on : Bool) (now : CellWalk) : Type 0 where
  pub never_stops : IsTrue goes_on
  pub size : now.size ≡ first.size
  pub at : now.at ≡ first.at
  pub stand : BothStandOn first.size now.plays
  pub kept : (class : Start) → AreKept first.size class first.at [] first.plays
      → IsClean first.size class tokens → AreKept first.size class first.at tokens now.plays
