-- The rows at the end in which nothing is printed.
use Rattle.std.specs.Prelude.{ℕ, ◌+◌, ◌-◌, min, List, [], ◌∷◌}
use Rattle.ans_model.specs.Sequence.TokenKind.{TokenKind, Glyph, Tab}
use Rattle.ans_model.specs.Screen.State.{Size, State}
use Rattle.ans_model.specs.Screen.Step.{step}
use Rattle.ans_model.specs.Screen.StartClass.{cleared}
use Rattle.ans_pens.specs.Pens.{before_last_blank}

-- How many lines of the size lie below all that is printed: by the tokens so far, and by this one. The last blank of
-- a tab is its lowest.
abbrev pub empty_with : Size → State → ℕ → TokenKind → ℕ
empty_with z s empty (Glyph byte) = min empty (z.lines - (s.cursor.row + 1))
empty_with z s empty Tab = min empty (z.lines - ((before_last_blank z s).cursor.row + 1))
empty_with z s empty _ = empty

-- the same after tokens that are played from this state
abbrev pub empty_after : Size → State → ℕ → List TokenKind → ℕ
empty_after z s empty [] = empty
empty_after z s empty (t ∷ tokens) = empty_after z (step z s t) (empty_with z s empty t) tokens

-- how many of the stated lines lie below all that is printed in a play from the cleared start
abbrev pub empty_rows : Size → List TokenKind → ℕ
empty_rows z tokens = empty_after z (cleared z) z.lines tokens
