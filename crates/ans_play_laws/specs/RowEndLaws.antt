-- Laws of full rows: by which tokens a line end comes after one, and up to which token they are counted.
use Rattle.std.specs.Prelude.{◌≡◌, ◌⊎◌, ◌↔◌, ℕ, List, ◌∷◌, ◌++◌, length, take, nat_le, if◌then◌else◌, IsTrue}
use Rattle.std.specs.List.{AllByRecursion}
use Rattle.ans_model.specs.Sequence.TokenKind.{TokenKind, Glyph, Bell, CarriageReturn, Tab, EraseLine, Save}
use Rattle.ans_model.specs.Sequence.TokenKind.{Colours, Wrap}
use Rattle.ans_model.specs.Screen.State.{Size, State}
use Rattle.ans_model.specs.Screen.Step.{final}
use Rattle.ans_model.specs.Screen.StartClass.{cleared}
use Rattle.ans_hints.specs.declared.row_ends.RowEnds.{RowEnds}
use Rattle.ans_hints.specs.RowEnds.{ended_by_line_feed, wraps, written_by}

-- the tokens that may come before a line end and inside it
abbrev pub IsQuiet : TokenKind → Type 0
IsQuiet Bell = Unit {0}
IsQuiet Save = Unit {0}
IsQuiet EraseLine = Unit {0}
IsQuiet (Colours parameters) = Unit {0}
IsQuiet (Wrap on) = Unit {0}
IsQuiet _ = ⊥

-- In the play from this state the tokens end in a glyph that wraps, and then only in quiet tokens.
pub record EndsFull (z : Size) (s : State) (tokens : List TokenKind) : Type 0 where
  pub front : List TokenKind
  pub byte : ℕ
  pub quiet : List TokenKind
  pub are : tokens ≡ front ++ Glyph byte ∷ quiet
  pub wraps : IsTrue (wraps z (final z s front))
  pub are_quiet : AllByRecursion IsQuiet quiet

-- They end so, then in a return, and then only in quiet tokens.
pub record EndsReturned (z : Size) (s : State) (tokens : List TokenKind) : Type 0 where
  pub front : List TokenKind
  pub quiet : List TokenKind
  pub are : tokens ≡ front ++ CarriageReturn ∷ quiet
  pub full : EndsFull z s front
  pub are_quiet : AllByRecursion IsQuiet quiet

-- The row that a line feed after the tokens ends is full exactly if they end in a glyph that wraps and quiet tokens, or
-- in these, a return and quiet tokens.
abbrev pub LineFeedEndsFullRow : Type 0
LineFeedEndsFullRow = (z : Size) (tokens : List TokenKind) (texts : List (List ℕ)) (offset : ℕ)
    → length texts ≡ length tokens
    → IsTrue (ended_by_line_feed z (final z (cleared z) tokens) offset (written_by z tokens texts).row).is_full
    ↔ (EndsFull z (cleared z) tokens ⊎ EndsReturned z (cleared z) tokens)

-- the tokens that print
abbrev pub Prints : TokenKind → Type 0
Prints (Glyph byte) = Unit {0}
Prints Tab = Unit {0}
Prints _ = ⊥

-- The last of the tokens that prints comes right after this front.
pub record PrintsLast (tokens front : List TokenKind) : Type 0 where
  pub token : TokenKind
  pub later : List TokenKind
  pub are : tokens ≡ front ++ token ∷ later
  pub prints : Prints token
  pub none_later : AllByRecursion (λ t. ¬ Prints t) later

-- What is counted as before something printed in this row is all that had been counted by then, without the last line
-- end if that leads below the row.
pub record CountsBefore (ends before : RowEnds) (row : ℕ) : Type 0 where
  pub full : ends.full_before ≡ before.full
  pub ended : ends.ended_before ≡ (if nat_le before.led_to row then before.ended else before.ended_before)

-- It is what had been counted before the last token that prints, in the row of that.
abbrev pub CountsBeforeLastPrint : Type 0
CountsBeforeLastPrint = (z : Size) (tokens front : List TokenKind) (texts : List (List ℕ))
    → length texts ≡ length tokens → PrintsLast tokens front
    → CountsBefore (written_by z tokens texts).ends (written_by z front (take (length front) texts)).ends
    (final z (cleared z) front).cursor.row
