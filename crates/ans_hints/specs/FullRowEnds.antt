-- The line ends after full rows, and what is left of a content without them.
use Rattle.std.specs.Prelude.{◌≡◌, ℕ, ◌+◌, ◌-◌, ◌<◌, ◌≤◌, true, false, List, [], ◌∷◌, ◌++◌, length, take, drop}
use Rattle.std.specs.Prelude.{Option, None, Some, if◌then◌else◌}
use Rattle.std.specs.List.{flat_map}
use Rattle.ans_model.specs.Sequence.TokenKind.{TokenKind, LineFeed}
use Rattle.ans_model.specs.Sequence.Reads.{ReadsAs}
use Rattle.ans_model.specs.Screen.State.{Size, State}
use Rattle.ans_model.specs.Screen.Step.{step}
use Rattle.ans_model.specs.Screen.StartClass.{cleared}
use Rattle.ans_pens.specs.Pens.{pen_of}
use Rattle.ans_hints.specs.RowEnds.{are_all_ended, first_row, is_wrapped, row_with}
use Rattle.ans_hints.specs.RowEnds.{written_by}
use Rattle.ans_hints.specs.declared.full_row_ends.FullRowEnd.{FullRowEnd}
use Rattle.ans_hints.specs.declared.row_play.RowPlay.{RowPlay}
use Rattle.ans_hints.specs.declared.row.Row.{Row}
use Rattle.ans_hints.specs.declared.row.Seam.{Seam}
use Rattle.ans_hints.specs.declared.row.Seam.TheVariants.{Wrapped, Returned}

abbrev pub row_end : Option ℕ → ℕ → FullRowEnd
row_end return_at line_feed = record { return_at = return_at; line_feed = line_feed }

-- the line end that a line feed at this offset completes, if the row before it is full
abbrev pub end_behind : Seam → ℕ → List FullRowEnd
end_behind Wrapped offset = row_end None offset ∷ []
end_behind (Returned row) offset = if row.is_full then row_end (Some row.offset) offset ∷ [] else []
end_behind _ offset = []

abbrev pub end_at : Row → ℕ → TokenKind → List FullRowEnd
end_at row offset LineFeed = end_behind row.seam offset
end_at row offset _ = []

-- those of tokens with these texts, which are played from this state in this row; the first is at this offset
abbrev pub ends_from : Size → State → ℕ → Row → List TokenKind → List (List ℕ) → List FullRowEnd
ends_from z s offset row [] texts = []
ends_from z s offset row (t ∷ tokens) [] = []
ends_from z s offset row (t ∷ tokens) (text ∷ texts) =
    end_at row offset t ++ ends_from z (step z s t) (offset + length text) (row_with z s offset row t) tokens texts

-- those of a content, in the play from the cleared start
abbrev pub full_row_ends : Size → List TokenKind → List (List ℕ) → List FullRowEnd
full_row_ends z tokens texts = ends_from z (cleared z) 0 first_row tokens texts

-- the offsets of the return, where there is one, and of the line feed
abbrev pub bytes_by : Option ℕ → ℕ → List ℕ
bytes_by None line_feed = line_feed ∷ []
bytes_by (Some at) line_feed = at ∷ line_feed ∷ []

abbrev pub bytes_of : FullRowEnd → List ℕ
bytes_of e = bytes_by e.return_at e.line_feed

-- the bytes, the first of which is at an offset, without those at these offsets
abbrev pub without : ℕ → List ℕ → List ℕ → List ℕ
without from [] bytes = bytes
without from (at ∷ more) bytes = take (at - from) bytes ++ without (at + 1) more (drop (at + 1 - from) bytes)

-- the bytes, the first of which is at an offset, without these line ends
abbrev pub without_ends : ℕ → List FullRowEnd → List ℕ → List ℕ
without_ends from ends bytes = without from (flat_map bytes_of ends) bytes

-- The content is read as these tokens. Every full row that something is printed after has a line end after it, and
-- there are at least two of these.
pub record EndsFullRows (z : Size) (content : List ℕ) (tokens : List TokenKind) (texts : List (List ℕ)) : Type 0 where
  pub reads : ReadsAs content tokens texts
  pub all_ended : are_all_ended (written_by z tokens texts).ends ≡ true

-- These are the line ends in bytes over which the play goes on, and which are read as tokens. At their start the row
-- has nothing yet that a line feed would complete to a line end.
pub record AreEndsOver (play : RowPlay) (bytes : List ℕ) (ends : List FullRowEnd) : Type 0 where
  pub state : State
  pub row : Row
  pub tokens : List TokenKind
  pub texts : List (List ℕ)
  pub pen : play.pen ≡ pen_of state
  pub unwrapped : is_wrapped row.seam ≡ false
  pub endless : (offset : ℕ) → end_behind row.seam offset ≡ []
  pub reads : ReadsAs bytes tokens texts
  pub ends_are : ends ≡ ends_from play.size state play.played row tokens texts

-- the line end is in the bytes between these two offsets: its return before its line feed
abbrev pub StandsBetween : ℕ → Option ℕ → ℕ → Type 0
StandsBetween from None line_feed = from ≤ line_feed
StandsBetween from (Some at) line_feed = (from ≤ at) × (at < line_feed)

-- The line end is in the bytes over which the play goes on, and the play has gone past it.
pub record IsBehindEnd (old : RowPlay) (bytes : List ℕ) (new : RowPlay) (e : FullRowEnd) : Type 0 where
  pub stands : StandsBetween old.played e.return_at e.line_feed
  pub played : new.played ≡ e.line_feed + 1
  pub within : new.played ≤ old.played + length bytes

-- It is the first of these line ends, and the play goes on over the rest of the bytes.
pub record IsFirstEnd (old : RowPlay) (bytes : List ℕ) (ends : List FullRowEnd) (new : RowPlay) (e : FullRowEnd)
    : Type 0 where
  pub later : List FullRowEnd
  pub first : ends ≡ e ∷ later
  pub goes_on : AreEndsOver new (drop (new.played - old.played) bytes) later
