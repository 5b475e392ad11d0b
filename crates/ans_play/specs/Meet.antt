-- What two half-known states both know.
use Rattle.std.specs.Prelude.{ℕ, min, max, List, map, zip, Option, Some, None, if◌then◌else◌, ◌==◌, bit_and, bit_xor}
use Rattle.ans_model.specs.Screen.State.{at}
use Rattle.ans_screen.specs.KnownBits.{KnownBits, known_bits}
use Rattle.ans_screen.specs.HalfCells.{half_cell}
use Rattle.ans_screen.specs.declared.cell.HalfCell.{HalfCell}
use Rattle.ans_play.specs.declared.span.Span.{Span}
use Rattle.ans_play.specs.declared.wrap.WrapMode.{WrapMode}
use Rattle.ans_play.specs.declared.wrap.WrapMode.TheVariants.{On, Off, Unknown}
use Rattle.ans_play.specs.HalfState.{HalfState, half_state, span}

-- the bits that both know, with one value
abbrev pub shared_bits : KnownBits → KnownBits → ℕ
shared_bits a b = bit_and (bit_and a.known b.known) (bit_xor 0xFF (bit_xor a.value b.value))

-- what both know of an attribute
abbrev pub meet_bits : KnownBits → KnownBits → KnownBits
meet_bits a b = known_bits (shared_bits a b) (bit_and a.value (shared_bits a b))

-- the byte, if both know it
abbrev pub meet_byte : Option ℕ → Option ℕ → Option ℕ
meet_byte (Some a) (Some b) = if a == b then Some a else None
meet_byte _ _ = None

-- what both know of a cell
abbrev pub meet_cell : HalfCell → HalfCell → HalfCell
meet_cell a b = half_cell (meet_byte a.glyph b.glyph) (meet_bits a.attr b.attr)

-- what both know of a screen, cell by cell
abbrev pub meet_screen : List HalfCell → List HalfCell → List HalfCell
meet_screen xs ys = map (λ (a, b). meet_cell a b) (zip xs ys)

-- the positions of both
abbrev pub meet_span : Span → Span → Span
meet_span s t =
    span
    (at (min s.low.row t.low.row) (min s.low.column t.low.column))
    (at (max s.high.row t.high.row) (max s.high.column t.high.column))

-- wrap, if both know it
abbrev pub meet_wrap : WrapMode → WrapMode → WrapMode
meet_wrap On On = On
meet_wrap Off Off = Off
meet_wrap _ _ = Unknown

-- what both states know, part by part
abbrev pub meet : HalfState → HalfState → HalfState
meet a b =
    half_state
    (meet_screen a.screen b.screen)
    (meet_span a.cursor b.cursor)
    (meet_span a.saved b.saved)
    (meet_bits a.attribute b.attribute)
    (meet_wrap a.wrap b.wrap)
