-- What a writing of a text does to the bytes that a writer holds, where those are known.
use Rattle.std.specs.Prelude.{ℕ, ◌≤◌, Bool, List, length, take, Option, Result, MatchResult, MatchBool}
use Rattle.std.specs.Io.KnownBytes.{Appends}
use Rattle.ans_write.specs.declared.tried.Tried.{Tried}
use Rattle.ans_write.specs.Tried.{inner_of}

-- known bytes grow by a prefix of the text
abbrev pub AppendsPrefix : Option (List ℕ) → Option (List ℕ) → List ℕ → Type 0
AppendsPrefix old new text = (n : ℕ) × (n ≤ length text) × Appends old new (take n text)

-- known bytes grow by the text, or by a prefix of it where the device has failed
abbrev pub AppendsUnless : Bool → Option (List ℕ) → Option (List ℕ) → List ℕ → Type 0
AppendsUnless failed old new text = MatchBool failed (AppendsPrefix old new text) (Appends old new text)

-- known bytes grow by the text at `Ok`, and by a prefix of it at `Err`
abbrev pub WritesText : {T E : Type 0} → Option (List ℕ) → Option (List ℕ) → Result T E → List ℕ → Type 0
WritesText old new r text = MatchResult r (λ _. Appends old new text) (λ _. AppendsPrefix old new text)

-- between two moments the device has taken the text; `contents` are its bytes, where those are known
abbrev pub Wrote : {W : Type 0} → (W → Option (List ℕ)) → Tried W → Tried W → List ℕ → Type 0
Wrote contents old new text = Appends (contents (inner_of old)) (contents (inner_of new)) text

-- between two moments the device has taken a prefix of the text
abbrev pub WrotePrefix : {W : Type 0} → (W → Option (List ℕ)) → Tried W → Tried W → List ℕ → Type 0
WrotePrefix contents old new text = AppendsPrefix (contents (inner_of old)) (contents (inner_of new)) text
