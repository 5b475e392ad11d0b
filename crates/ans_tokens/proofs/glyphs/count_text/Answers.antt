use Rattle.std.proofs.Common.{take, All, arith}
use Rattle.ans_tokens.specs.Glyphs.{IsGlyphByte}
use Rattle.ans_tokens.proofs.TextFront.{glyphs_more, glyphs_first, first_fewer}
use Rattle.ans_tokens.proofs.glyphs.count_text.Goals as goal
use Rattle.ans_tokens.proofs.glyphs.count_text.Goals.{
  then-loop-count-test+else-bytes-count-ge16,
  else-loop-count-test,
  then-loop-count-test+then-bytes-count-ge16+then-text-lt16,
}

pub loop-count-init : goal.loop-count-init
loop-count-init c = record {
  within = omega arith;
  glyphs = glyphs_first c.args.bytes.now c.text_of_chunk-count.result (omega arith)
      (λ k l. omega (arith, c.type_inv.bytes k)) c.text_of_chunk-count.ensures.text;
}

pub loop-count-preserved : goal.loop-count-preserved
loop-count-preserved c = record {
  within = omega arith;
  glyphs = glyphs_more c.args.bytes.now c.loop-count.count c.text_of_chunk-text.result (omega arith)
      (λ k l. omega (arith, c.type_inv.bytes k)) c.loop-count.invariant.glyphs c.text_of_chunk-text.ensures.text;
}

pub returns-then-count-lt16-clause-glyphs : goal.returns-then-count-lt16-clause-glyphs
returns-then-count-lt16-clause-glyphs c =
    first_fewer IsGlyphByte c.args.bytes.now c.min.result c.text_of_chunk-count.result (omega arith)
    (glyphs_first c.args.bytes.now c.text_of_chunk-count.result (omega arith)
    (λ k l. omega (arith, c.type_inv.bytes k)) c.text_of_chunk-count.ensures.text)

pub returns-clause-glyphs : goal.returns-clause-glyphs
returns-clause-glyphs c =
    let counted : All IsGlyphByte (take c.loop-count-test.count c.args.bytes.now) = elim c.loop-count-test.branch [
      | then-loop-count-test+else-bytes-count-ge16 w ↦ rw w.count-is c.loop-count.invariant.glyphs
      | else-loop-count-test w ↦ rw w.count-is c.loop-count.invariant.glyphs
      | then-loop-count-test+then-bytes-count-ge16+then-text-lt16 w ↦ rw w.count-is
          (glyphs_more c.args.bytes.now c.loop-count.count w.text_of_chunk-text.result (omega arith)
          (λ k l. omega (arith, c.type_inv.bytes k)) c.loop-count.invariant.glyphs w.text_of_chunk-text.ensures.text)
    ] in
    first_fewer IsGlyphByte c.args.bytes.now c.min-2.result c.loop-count-test.count (omega arith) counted
