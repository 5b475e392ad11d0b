-- How many lines a content needs from the cleared start.
use Rattle.std.specs.Prelude.{ℕ, ◌+◌, ◌<◌, ◌≤◌, List}
use Rattle.ans_model.specs.Screen.State.{sized}
use Rattle.ans_model.specs.Screen.StartClass.{all_known}
use Rattle.ans_model.specs.Verdict.Good.{IsGood}

-- the content is good from the cleared start on this many columns and lines
abbrev pub IsGoodOn : ℕ → List ℕ → ℕ → Type 0
IsGoodOn width content lines = IsGood (sized width lines) all_known content

-- where it is good, it is good with one line more, though it may show another picture
abbrev pub OneLineMoreIsGood : Type 0
OneLineMoreIsGood = (width lines : ℕ) (content : List ℕ) → IsGoodOn width content lines
    → IsGoodOn width content (lines + 1)

-- the content is good with this many lines, and with no fewer
pub record IsLeastLines (width : ℕ) (content : List ℕ) (lines : ℕ) : Type 0 where
  pub enough : IsGoodOn width content lines
  pub fewer : (n : ℕ) → n < lines → ¬ IsGoodOn width content n

-- it is good with none up to the most
abbrev pub IsNeverGood : ℕ → List ℕ → ℕ → Type 0
IsNeverGood width content most = (n : ℕ) → n ≤ most → ¬ IsGoodOn width content n
