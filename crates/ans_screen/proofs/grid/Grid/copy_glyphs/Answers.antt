use Rattle.std.proofs.Common.{arith, ap, ℕ, ◌*◌}
use Rattle.ans_screen.specs.HalfCells.{glyph_byte}
use Rattle.ans_screen.proofs.Copies.{in_row, copied_more, row_copied}
use Rattle.ans_screen.proofs.grid.Grid.copy_glyphs.Goals as goal

pub get-requires : goal.get-requires
get-requires g c =
    in_row _ _ _ _ c.loop-i.i _ c.width.ensures (g.met.Self.Grid.whole c.args.self.now) c.requires.row (omega arith)

pub loop-i-preserved : goal.loop-i-preserved
loop-i-preserved g c =
    copied_more glyph_byte (g.Self.Grid.cells_of c.args.self.now) _ c.loop-i.i c.loop-i.glyphs c.get.result _
    c.loop-i.invariant (omega arith) c.get.ensures c.glyph_byte.ensures

pub returns : goal.returns
returns g c =
    row_copied glyph_byte (g.Self.Grid.cells_of c.args.self.now) _ _ c.args.row _ c.loop-i.glyphs
    (g.met.Self.Grid.whole c.args.self.now) c.requires.row (ap (λ (n : ℕ). c.args.row * n) c.width.ensures)
    (omega arith) (λ k lt. c.loop-i.invariant k (omega arith))
