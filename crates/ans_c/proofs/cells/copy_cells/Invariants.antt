use Rattle.std.proofs.Common.{◌≡◌, ◌*◌, map, take}
use Rattle.ans_model.specs.declared.cell.Cell.{Cell}
use Rattle.ans_c.proofs.cells.copy_cells.Given as goal

-- the cells of the rows so far are copied
abbrev pub invariant-loop-row : goal.invariant-loop-row
invariant-loop-row g l = record {
  glyphs : take (l.row * l.width) l.glyphs ≡ map (λ (c : Cell). c.byte) (take (l.row * l.width) l.picture.cells);
  attributes : take (l.row * l.width) l.attributes
      ≡ map (λ (c : Cell). c.attribute) (take (l.row * l.width) l.picture.cells);
}
