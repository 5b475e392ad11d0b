-- Half-known cells: cells of which some parts may be unknown.
use Rattle.std.specs.Prelude.{ℕ, Bool, ◌&&◌, Option, Some, is_some, unwrap_or}
use Rattle.ans_screen.specs.KnownBits.{KnownBits, is_whole}
use Rattle.ans_screen.specs.declared.cell.HalfCell.{HalfCell}
use Rattle.ans_screen.specs.declared.cell.CellByte.{CellByte}
use Rattle.ans_screen.specs.declared.cell.CellByte.TheVariants.{Glyph, Attribute}

-- a byte, where it is known, and what is known of the attribute
abbrev pub half_cell : Option ℕ → KnownBits → HalfCell
half_cell glyph attr = record { glyph = glyph; attr = attr }

-- a byte that is known, with an attribute
abbrev pub printed_cell : KnownBits → ℕ → HalfCell
printed_cell attr byte = half_cell (Some byte) attr

-- the byte and all bits of the attribute are known
abbrev pub is_known : HalfCell → Bool
is_known c = is_some c.glyph && is_whole c.attr

-- the byte, or 0 where it is not known
abbrev pub glyph_byte : HalfCell → ℕ
glyph_byte c = unwrap_or c.glyph 0

-- the attribute's value, in which each bit that is not known is 0
abbrev pub attribute_byte : HalfCell → ℕ
attribute_byte c = c.attr.value

-- the glyph's or the attribute's byte
abbrev pub byte_of : CellByte → HalfCell → ℕ
byte_of Glyph = glyph_byte
byte_of Attribute = attribute_byte
