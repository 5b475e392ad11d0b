-- The first fault in bytes.
use Rattle.std.specs.Prelude.{◌≡◌, ◌⊎◌, ℕ, IsTrue, List, [], ◌∷◌, ◌++◌, length, Err}
use Rattle.std.specs.Char.{is_ascii_digit}
use Rattle.ans_model.specs.Bytes.{semicolon}
use Rattle.ans_model.specs.Sequence.TokenKind.{TokenKind}
use Rattle.ans_model.specs.declared.fault.Fault.{Fault}
use Rattle.ans_model.specs.declared.fault.Cause.{Cause}
use Rattle.ans_model.specs.declared.fault.Cause.TheVariants.{BrokenSequence, NumberTooLarge, TooManyParameters}
use Rattle.ans_model.specs.Sequence.Spelling.{Raw, Spells, IsUnfinished, IsPrefixOfSpelling, IsPrefixOfLoose}
use Rattle.ans_model.specs.Sequence.Meaning.{meaning}
use Rattle.ans_model.specs.Sequence.Reads.{SpellsToken, Reads}
use Rattle.ans_model.specs.Screen.State.{Size, IsSize}
use Rattle.ans_model.specs.declared.start.Start.{Start}
use Rattle.ans_model.specs.Verdict.TokenFault.{HasFault, IsClean}

-- the text spells a sequence that is refused for its meaning
pub record IsRefusedByMeaning (text : List ℕ) (cause : Cause) : Type 0 where
  pub raw : Raw
  pub spelled : Spells raw text
  pub means : meaning raw ≡ Err cause

-- Why a byte after an unfinished sequence is refused: nothing loose is spelled with it, or it makes a number too
-- large, or begins a parameter too many.
abbrev pub IsWhy : List ℕ → ℕ → Cause → Type 0
IsWhy text byte cause =
    (¬ IsPrefixOfLoose text × (cause ≡ BrokenSequence))
    ⊎ (IsPrefixOfLoose text × IsTrue (is_ascii_digit byte) × (cause ≡ NumberTooLarge))
    ⊎ (IsPrefixOfLoose text × (byte ≡ semicolon) × (cause ≡ TooManyParameters))

-- an unfinished sequence and one byte, with which it begins no spelling
pub record IsBroken (text : List ℕ) (cause : Cause) : Type 0 where
  pub part : List ℕ
  pub byte : ℕ
  pub whole : text ≡ part ++ byte ∷ []
  pub unfinished : IsUnfinished part
  pub not_prefix : ¬ IsPrefixOfSpelling text
  pub why : IsWhy text byte cause

-- what is refused on reading it, whatever tokens come before
abbrev pub IsRefused : List ℕ → Cause → Type 0
IsRefused text cause = IsRefusedByMeaning text cause ⊎ IsBroken text cause

-- the text spells a token that has a fault after these tokens
pub record IsToBlame (z : Size) (class : Start) (played : List TokenKind) (text : List ℕ) (cause : Cause) : Type 0 where
  pub token : TokenKind
  pub spelled : SpellsToken token text
  pub fault : HasFault z class played token cause

-- The fault is that of a text after a front which is read as clean tokens, at the text's first byte.
pub record IsFirstFault (z : Size) (class : Start) (bytes : List ℕ) (fault : Fault) : Type 0 where
  pub size : IsSize z
  pub front : List ℕ
  pub text : List ℕ
  pub rest : List ℕ
  pub whole : bytes ≡ front ++ (text ++ rest)
  pub tokens : List TokenKind
  pub reads : Reads front tokens
  pub clean : IsClean z class tokens
  pub offset : fault.offset ≡ length front
  pub faulty : IsToBlame z class tokens text fault.cause ⊎ IsRefused text fault.cause
