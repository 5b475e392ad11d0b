use Rattle.ans_screen.specs.HalfCells.{attribute_byte}
use Rattle.ans_screen.proofs.Copies.{AreCopied}
use Rattle.ans_screen.proofs.grid.Grid.copy_attributes.Given as goal

-- the values so far are copied
abbrev pub invariant-loop-i : goal.invariant-loop-i
invariant-loop-i g l = AreCopied attribute_byte (g.Self.Grid.cells_of l.self) l.from l.i l.values
