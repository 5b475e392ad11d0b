-- Half-known cells in four bytes each: the glyph, whether it is known, the bits that are known, and their values.
use Rattle.std.specs.Prelude.{◌≡◌, ℕ, ◌+◌, ◌<◌, ◌≤◌, ◌==◌}
use Rattle.std.specs.Prelude.{if◌then◌else◌, List, ◌++◌, length, replicate, slice_index, get_or}
use Rattle.std.specs.Prelude.{Option, Some, None, MatchOption, unwrap_or, bit_and}
use Rattle.ans_screen.specs.KnownBits.{KnownBits, known_bits}
use Rattle.ans_screen.specs.HalfCells.{half_cell}
use Rattle.ans_screen.specs.declared.cell.HalfCell.{HalfCell}
use Rattle.ans_screen.specs.declared.cell.CellByte.{CellByte}
use Rattle.ans_screen.specs.declared.cell.CellByte.TheVariants.{Glyph, Attribute}

-- a glyph, known where the other byte is FFh
abbrev pub glyph_of : ℕ → ℕ → Option ℕ
glyph_of glyph known = if known == 0xFF then Some glyph else None

-- those bits of the value that are known
abbrev pub bits_of : ℕ → ℕ → KnownBits
bits_of known value = known_bits known (bit_and value known)

-- the cell that four bytes stand for
abbrev pub cell_of : ℕ → ℕ → ℕ → ℕ → HalfCell
cell_of glyph glyph_known bits_known value = half_cell (glyph_of glyph glyph_known) (bits_of bits_known value)

-- the glyph, or those bits of the attribute, that are known
abbrev pub known_byte : CellByte → ℕ → ℕ → ℕ
known_byte Glyph shown known = unwrap_or (glyph_of shown known) 0
known_byte Attribute shown known = bit_and shown known

-- of the first n cells the glyph and all bits are known
abbrev pub AreKnown : List ℕ → List ℕ → ℕ → Type 0
AreKnown glyphs_known bits_known n =
    (k : ℕ) → k < n → (slice_index glyphs_known k ≡ 0xFF) × (slice_index bits_known k ≡ 0xFF)

-- the first cell below `to` of which the glyph or a bit is not known
abbrev pub IsFirstGap : List ℕ → List ℕ → ℕ → Option ℕ → Type 0
IsFirstGap glyphs_known bits_known to result =
    MatchOption result (AreKnown glyphs_known bits_known to)
    (λ i. (i < to) × AreKnown glyphs_known bits_known i × (AreKnown glyphs_known bits_known (i + 1) → ⊥))

-- the bytes of a plane that are held, and zeros after them
abbrev pub with_zeros : List ℕ → ℕ → List ℕ
with_zeros bytes zeros = bytes ++ replicate zeros 0

-- the first bytes of a part of a plane: each of the others is 0
pub record IsFront (front plane : List ℕ) (from to : ℕ) : Type 0 where
  pub within : from + length front ≤ to
  pub each : (k : ℕ) → from + k < to → get_or front k 0 ≡ slice_index plane (from + k)
