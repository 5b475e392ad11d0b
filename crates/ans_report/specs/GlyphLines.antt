-- The lines of glyphs that one byte spells, and what their offsets share.
use Rattle.std.specs.Prelude.{◌≡◌, ℕ, ◌+◌, ◌≤◌, ◌<◌, List, [], ◌∷◌, ◌++◌, codes, decimal, map}
use Rattle.ans_model.specs.Sequence.TokenKind.{Glyph}
use Rattle.ans_model.specs.Text.Hexadecimal.{hex_byte}
use Rattle.ans_model.specs.Text.TokensText.{token_line, token_lines}
use Rattle.ans_report.specs.declared.tokens_text.Tens.{Tens}

-- the line of a glyph that the byte at the offset spells
abbrev pub glyph_line : ℕ → ℕ → List ℕ
glyph_line offset byte = token_line offset (Glyph byte) (byte ∷ [])

-- the last digit of its offset, and what follows that
abbrev pub line_end : ℕ → ℕ → List ℕ
line_end last byte = (48 + last) ∷ (codes " 1 glyph " ++ (hex_byte byte ++ codes "\n"))

-- the lines of the glyphs of a run whose first byte is at the offset
abbrev pub run_lines : ℕ → List ℕ → List ℕ
run_lines offset run = token_lines offset (map (λ b. Glyph b) run) (map (λ b. b ∷ []) run)

-- The ten offsets begin with these digits, and do not begin after the offset.
pub record AreReady (tens : Tens) (offset : ℕ) : Type 0 where
  pub begin : tens.start ≤ offset
  pub share : (last : ℕ) → last < 10 → decimal (tens.start + last) ≡ tens.digits.items ++ (48 + last) ∷ []
