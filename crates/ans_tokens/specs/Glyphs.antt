-- Bytes that are printed as they are, one token each.
use Rattle.std.specs.Prelude.{◌≡◌, ◌||◌, ◌==◌, ℕ, ◌+◌, ◌≤◌, Bool, not, nat_lt, List, [], ◌∷◌, length, take, slice_get}
use Rattle.std.specs.Prelude.{All}
use Rattle.std.specs.Prelude.{Some, None}
use Rattle.ans_model.specs.Sequence.TokenKind.{Glyph}
use Rattle.ans_model.specs.Sequence.Reads.{SpellsToken}
use Rattle.ans_tokens.specs.ScannerView.{ScannerView, Nothing}
use Rattle.ans_tokens.specs.Walk.{is_plain}

-- the byte by itself spells the token that prints it
abbrev pub IsGlyphByte : ℕ → Type 0
IsGlyphByte b = SpellsToken (Glyph b) (b ∷ [])

-- a byte below 20h, of which some are no glyphs
abbrev pub is_low : ℕ → Bool
is_low byte = nat_lt byte 0x20

-- a byte with which a colour code of a bulletin board begins
abbrev pub is_sign : ℕ → Bool
is_sign byte = byte == 0x40 || byte == 0x7C

-- a byte at which a run of plain bytes may end
abbrev pub is_stop : ℕ → Bool
is_stop byte = not (is_plain byte) || is_sign byte

-- the first `count` bytes are glyphs, and the next one, where there is one, is not
pub record IsGlyphFront (bytes : List ℕ) (count : ℕ) : Type 0 where
  pub within : count ≤ length bytes
  pub glyphs : All IsGlyphByte (take count bytes)
  pub longest : (b : ℕ) → slice_get bytes count ≡ Some b → ¬ IsGlyphByte b

-- the open part is empty, and nothing was refused
pub record IsBetweenTokens (s : ScannerView) : Type 0 where
  pub nothing : s.kept ≡ Nothing
  pub unrefused : s.fault ≡ None

-- the scanner that stood between two tokens, after this many bytes of whole tokens
abbrev pub scanner_after : ScannerView → ℕ → ScannerView
scanner_after s count = record s { offset = s.offset + count; open_offset = s.open_offset + count }
