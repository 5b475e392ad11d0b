use Rattle.std.proofs.Common.{◌-◌, ◌<◌, arith}
use Rattle.ans_write.proofs.PutsLemmas.{Puts-same, Puts-then}
use Rattle.ans_report.specs.GlyphLines.{AreReady}
use Rattle.ans_report.proofs.GlyphsPut.{glyph_line_is}
use Rattle.ans_report.proofs.tokens_text.put_glyph.Goals as goal
use Rattle.ans_report.proofs.tokens_text.put_glyph.Goals.{then-offset-tens-ge10, else-offset-tens-ge10}

pub returns-clause-puts : goal.returns-clause-puts
returns-clause-puts g c =
    let offset = c.args.offset in
    let tens = c.if-offset-tens-ge10.tens in
    let ready : AreReady tens offset × (offset - tens.start < 10) = elim c.if-offset-tens-ge10.branch [
      | then-offset-tens-ge10 w ↦ rw w.tens-is (w.go_to.ensures.ready, omega (arith, w.go_to.ensures.near))
      | else-offset-tens-ge10 w ↦ rw w.tens-is (c.requires, omega (arith, w.if-offset-tens-ge10.false))
    ] in
    Puts-same
    (glyph_line_is tens offset c.args.byte (offset - tens.start) ready.0 ready.1 (omega (arith, ready.0.begin)))
    (Puts-then (rw c.as_slice.ensures.value at c.put.ensures) (rw c.rest_of_glyph.ensures at c.put-2.ensures))
