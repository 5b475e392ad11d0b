use Rattle.std.proofs.Common.{◌+◌, ◌<◌, arith}
use Rattle.ans_screen.proofs.planes.first_gap.Goals as goal
use Rattle.ans_screen.proofs.planes.first_gap.Goals.{then-glyphs_known-i-via-then-glyphs_known-i}
use Rattle.ans_screen.proofs.planes.first_gap.Goals.{then-glyphs_known-i-via-else-glyphs_known-i+then-bits_known-i}

pub returns-then-glyphs_known-i : goal.returns-then-glyphs_known-i
returns-then-glyphs_known-i c =
    let last : c.loop-i.i < c.loop-i.i + 1 = omega arith in (
      c.loop-i-test.true,
      c.loop-i.invariant,
      λ known.
          elim c.then-glyphs_known-i.branch [
            | then-glyphs_known-i-via-then-glyphs_known-i w ↦ w.if-glyphs_known-i.true (known c.loop-i.i last).0
            | then-glyphs_known-i-via-else-glyphs_known-i+then-bits_known-i w ↦
                w.if-bits_known-i.true (known c.loop-i.i last).1
          ],
    )
