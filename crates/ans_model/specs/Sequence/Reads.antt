-- The tokens that bytes are read as.
use Rattle.std.specs.Prelude.{◌≡◌, ◌≢◌, ◌⊎◌, ℕ, ◌==◌, List, [], ◌∷◌, ◌++◌, length, Ok, if◌then◌else◌}
use Rattle.std.specs.List.{AllZip, concat}
use Rattle.ans_model.specs.Bytes.{IsByte, escape}
use Rattle.ans_model.specs.Sequence.TokenKind.{TokenKind, Glyph, Bell, BackSpace, Tab, LineFeed, CarriageReturn}
use Rattle.ans_model.specs.Sequence.Spelling.{Raw, Spells}
use Rattle.ans_model.specs.Sequence.Meaning.{meaning}

-- the token that a byte outside sequences is
abbrev pub kind_of_byte : ℕ → TokenKind
kind_of_byte b =
    if b == 0x07 then Bell
    else if b == 0x08 then BackSpace
    else if b == 0x09 then Tab
    else if b == 0x0A then LineFeed
    else if b == 0x0D then CarriageReturn
    else Glyph b

-- the text is one byte, not ESC, that is the token
pub record IsByteOf (token : TokenKind) (text : List ℕ) : Type 0 where
  pub byte : ℕ
  pub is_byte : IsByte byte
  pub not_escape : byte ≢ escape
  pub whole : text ≡ byte ∷ []
  pub means : token ≡ kind_of_byte byte

-- the text spells a sequence that means the token
pub record IsSequenceOf (token : TokenKind) (text : List ℕ) : Type 0 where
  pub raw : Raw
  pub spelled : Spells raw text
  pub means : meaning raw ≡ Ok token

-- the text is one token of this kind
abbrev pub SpellsToken : TokenKind → List ℕ → Type 0
SpellsToken token text = IsByteOf token text ⊎ IsSequenceOf token text

-- the texts spell the tokens, and are the bytes when joined
pub record ReadsAs (bytes : List ℕ) (tokens : List TokenKind) (texts : List (List ℕ)) : Type 0 where
  pub each : AllZip SpellsToken tokens texts
  pub whole : bytes ≡ concat texts

-- The bytes are read as these tokens.
abbrev pub Reads : List ℕ → List TokenKind → Type 0
Reads bytes tokens = (texts : List (List ℕ)) × ReadsAs bytes tokens texts

-- the bytes before an offset are read as these tokens, and this is the rest
pub record IsReadUpTo (bytes : List ℕ) (offset : ℕ) (tokens : List TokenKind) (rest : List ℕ) : Type 0 where
  pub front : List ℕ
  pub whole : bytes ≡ front ++ rest
  pub offset_is : offset ≡ length front
  pub reads : Reads front tokens
