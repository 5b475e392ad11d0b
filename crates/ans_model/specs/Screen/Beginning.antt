-- The bytes that make a drawing safe to show after anything.
use Rattle.std.specs.Prelude.{◌≡◌, true, List, ℕ, [], ◌∷◌, codes}
use Rattle.std.specs.List.{concat}
use Rattle.ans_model.specs.Bytes.{escape}
use Rattle.ans_model.specs.Sequence.TokenKind.{TokenKind, Clear, Place, Save, Colours, Wrap}
use Rattle.ans_model.specs.Screen.State.{Size, State}
use Rattle.ans_model.specs.Screen.Step.{final}
use Rattle.ans_model.specs.Screen.StartClass.{cleared}

-- Wrap on, white on black by name, a blank screen, and the cursor at home and saved there. In ANSI.SYS, Clear takes it
-- home too; in modern terminals it does not.
abbrev pub mending_tokens : List TokenKind
mending_tokens = Wrap true ∷ Colours (0 ∷ 37 ∷ 40 ∷ []) ∷ Clear ∷ Place 1 1 ∷ Save ∷ []

-- the text of each of its tokens
abbrev pub mending_texts : List (List ℕ)
mending_texts =
    (escape ∷ codes "[?7h") ∷ (escape ∷ codes "[0;37;40m") ∷ (escape ∷ codes "[2J") ∷ (escape ∷ codes "[H")
    ∷ (escape ∷ codes "[s") ∷ []

-- ESC[?7h ESC[0;37;40m ESC[2J ESC[H ESC[s
abbrev pub mending : List ℕ
mending = concat mending_texts

-- played from any state, they leave the cleared one
abbrev pub LeavesClearedScreen : Type 0
LeavesClearedScreen = (z : Size) (s : State) → final z s mending_tokens ≡ cleared z
