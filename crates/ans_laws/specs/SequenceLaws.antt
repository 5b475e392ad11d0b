-- What holds of the spellings of sequences.
use Rattle.std.specs.Prelude.{◌≡◌, ℕ, List, ◌++◌}
use Rattle.ans_model.specs.Sequence.Spelling.{Raw, Loose}

-- Two spellings at the front of one list of bytes are one spelling of one sequence, whatever follows each. So none
-- is a proper prefix of another, and no bytes spell two sequences.
abbrev pub OneSpellingInFront : Type 0
OneSpellingInFront = (r s : Raw) (a b x y : List ℕ) → Loose r a → Loose s b → a ++ x ≡ b ++ y
    → (r ≡ s) × (a ≡ b) × (x ≡ y)
