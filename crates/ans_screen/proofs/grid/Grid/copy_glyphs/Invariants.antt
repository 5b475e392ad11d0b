use Rattle.ans_screen.specs.HalfCells.{glyph_byte}
use Rattle.ans_screen.proofs.Copies.{AreCopied}
use Rattle.ans_screen.proofs.grid.Grid.copy_glyphs.Given as goal

-- the glyphs so far are copied
abbrev pub invariant-loop-i : goal.invariant-loop-i
invariant-loop-i g l = AreCopied glyph_byte (g.Self.Grid.cells_of l.self) l.from l.i l.glyphs
