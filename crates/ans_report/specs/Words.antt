-- A word after another.
use Rattle.std.specs.Prelude.{ℕ, List, ◌∷◌}
use Rattle.std.specs.Borrow.{Bor}
use Rattle.ans_model.specs.Bytes.{blank}

-- a word after a blank
abbrev pub later_word : List ℕ → List ℕ
later_word word = blank ∷ word

-- the same, where the word is borrowed
abbrev pub later_view : Bor (List ℕ) → List ℕ
later_view word = later_word word.now
