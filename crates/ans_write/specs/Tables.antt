-- How bytes are shown, in tables.
use Rattle.std.specs.Prelude.{◌≡◌, ℕ, ◌<◌, ◌≤◌, List, take, slice_index_or, encode_utf8}
use Rattle.ans_model.specs.Text.Characters.{glyph_text}
use Rattle.ans_model.specs.Text.Hexadecimal.{hex_byte}
use Rattle.ans_write.specs.declared.utf8.Utf8Character.{Utf8Character}

-- a byte's character in UTF-8
abbrev pub byte_text : ℕ → List ℕ
byte_text b = encode_utf8 (glyph_text b)

-- the bytes of a character
abbrev pub spelling : Utf8Character → List ℕ
spelling c = take c.count c.bytes

-- of a character's bytes the first `count` spell a text
pub record IsSpelling (bytes : List ℕ) (count : ℕ) (text : List ℕ) : Type 0 where
  pub short : count ≤ 4
  pub spells : take count bytes ≡ text

-- the entry at each byte is its character
abbrev pub ShowsBytes : List (List ℕ) → List ℕ → Type 0
ShowsBytes bytes counts =
    (b : ℕ) (d : List ℕ) (k : ℕ) → b < 256
    → IsSpelling (slice_index_or bytes b d) (slice_index_or counts b k) (byte_text b)

-- the byte is its own character
abbrev pub IsAscii : ℕ → Type 0
IsAscii b = (0x20 ≤ b) × (b < 0x7F)

-- the entry at each byte is its two digits
abbrev pub TellsBytes : List (List ℕ) → Type 0
TellsBytes table = (b : ℕ) (d : List ℕ) → b < 256 → slice_index_or table b d ≡ hex_byte b
