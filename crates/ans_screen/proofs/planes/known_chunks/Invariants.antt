use Rattle.std.proofs.Common.{◌*◌}
use Rattle.ans_screen.specs.CellPlanes.{AreKnown}
use Rattle.ans_screen.proofs.planes.known_chunks.Given as goal

-- all chunks so far are known
abbrev pub invariant-loop-i : goal.invariant-loop-i
invariant-loop-i l = AreKnown l.glyphs_known l.bits_known (32 * l.i)
