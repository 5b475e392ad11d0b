-- The bytes that cause a fault of a content.
use Rattle.std.specs.Prelude.{◌≡◌, ◌⊎◌, ℕ, List, [], ◌++◌}
use Rattle.ans_model.specs.declared.fault.Fault.{Fault}
use Rattle.ans_model.specs.declared.fault.Cause.{Cause}
use Rattle.ans_model.specs.declared.start.Start.{Start}
use Rattle.ans_model.specs.Sequence.TokenKind.{TokenKind}
use Rattle.ans_model.specs.Sequence.Reads.{SpellsToken}
use Rattle.ans_model.specs.Sequence.Spelling.{IsUnfinished}
use Rattle.ans_model.specs.Screen.State.{Size}
use Rattle.ans_model.specs.Verdict.FirstFault.{IsFirstFault, IsRefused}
use Rattle.ans_model.specs.Verdict.LastFault.{EndsInSequence, LeavesUnknown}

-- The bytes of the token, or those of the refused sequence up to the byte that decides, or those of the sequence in
-- which the content ends. A cell that stays unknown has none.
abbrev pub AreToBlame : Size → Start → List ℕ → Fault → List ℕ → Type 0
AreToBlame z class content fault text =
    ((h : IsFirstFault z class content fault) × (text ≡ h.text))
    ⊎ ((h : EndsInSequence z class content fault) × (text ≡ h.text))
    ⊎ (LeavesUnknown z class content fault × (text ≡ []))

-- the bytes begin with the text, which spells a token
pub record BeginsWithToken (bytes text : List ℕ) : Type 0 where
  pub token : TokenKind
  pub rest : List ℕ
  pub whole : bytes ≡ text ++ rest
  pub spelled : SpellsToken token text

-- the bytes begin with the text, which the reading refuses
pub record BeginsWithRefused (bytes text : List ℕ) : Type 0 where
  pub cause : Cause
  pub rest : List ℕ
  pub whole : bytes ≡ text ++ rest
  pub refused : IsRefused text cause

-- the text is all the bytes: none, or those of a sequence that is not finished
abbrev pub IsAllOf : List ℕ → List ℕ → Type 0
IsAllOf bytes text = (text ≡ bytes) × ((bytes ≡ []) ⊎ IsUnfinished bytes)

-- the text that is read first in the bytes
abbrev pub IsReadFirst : List ℕ → List ℕ → Type 0
IsReadFirst bytes text = BeginsWithToken bytes text ⊎ BeginsWithRefused bytes text ⊎ IsAllOf bytes text
