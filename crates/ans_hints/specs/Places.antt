-- Where a condition holds in a play, and how often.
use Rattle.std.specs.Prelude.{ℕ, ◌+◌, Bool, ◌&&◌, List, [], ◌∷◌, ◌++◌, length, Option, None, Some, if◌then◌else◌}
use Rattle.std.specs.List.{concat}
use Rattle.ans_model.specs.Sequence.TokenKind.{TokenKind}
use Rattle.ans_model.specs.Screen.State.{Size, State}
use Rattle.ans_model.specs.Screen.Step.{step}
use Rattle.ans_pens.specs.declared.times.Times.{Times}

-- what may hold of a token: it is asked on a screen of this size, of the state before the token, of the token, and of
-- the bytes after it
abbrev pub Condition : Type 0
Condition = Size → State → TokenKind → List ℕ → Bool

-- only the offset where the test holds, and else none
abbrev pub offset_if : Bool → ℕ → List ℕ
offset_if test offset = if test then offset ∷ [] else []

-- The offsets of the tokens at which the condition holds. The tokens are played from this state, the first of them is
-- at this offset, and other bytes may follow the last.
abbrev pub places : Condition → Size → State → ℕ → List TokenKind → List (List ℕ) → List ℕ → List ℕ
places holds z s offset [] texts behind = []
places holds z s offset (t ∷ tokens) [] behind = []
places holds z s offset (t ∷ tokens) (text ∷ texts) behind =
    offset_if (holds z s t (concat texts ++ behind)) offset
    ++ places holds z (step z s t) (offset + length text) tokens texts behind

-- the same, but only of tokens for which a test holds of the tokens after them
abbrev pub places_before : (List TokenKind → Bool) → Condition → Size → State → ℕ → List TokenKind → List (List ℕ)
    → List ℕ → List ℕ
places_before test holds z s offset [] texts behind = []
places_before test holds z s offset (t ∷ tokens) [] behind = []
places_before test holds z s offset (t ∷ tokens) (text ∷ texts) behind =
    offset_if (test tokens && holds z s t (concat texts ++ behind)) offset
    ++ places_before test holds z (step z s t) (offset + length text) tokens texts behind

-- how many offsets there are, and the first of them
abbrev pub times_of : List ℕ → Option Times
times_of [] = None
times_of (first ∷ later) = Some (record { count = length (first ∷ later); first = first })
