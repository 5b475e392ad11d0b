use Rattle.std.proofs.Common.{arith, slice_index_or, refl}
use Rattle.std.proofs.lemmas.Grind.{common_steps}
use Rattle.ans_tokens.specs.Glyphs.{IsGlyphByte}
use Rattle.ans_tokens.proofs.glyphs.count_glyphs.Goals as goal

pub loop-i-preserved : goal.loop-i-preserved
loop-i-preserved c =
    let glyph : IsGlyphByte (slice_index_or c.args.bytes.now c.loop-i.i 0) =
    c.is_glyph.ensures.0 (rw c.if-not-is_glyph.false refl) in
    grind (arith, common_steps, glyph)
