use Rattle.ans_screen.specs.CellPlanes.{AreKnown}
use Rattle.ans_screen.proofs.planes.first_gap.Given as goal

-- all cells so far are known
abbrev pub invariant-loop-i : goal.invariant-loop-i
invariant-loop-i l = AreKnown l.glyphs_known l.bits_known l.i
