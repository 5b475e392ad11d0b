use Rattle.std.proofs.Common.{take, All}
use Rattle.ans_tokens.specs.Glyphs.{IsGlyphByte}
use Rattle.ans_tokens.proofs.glyphs.count_glyphs.Given as goal

-- the bytes so far are glyphs
abbrev pub invariant-loop-i : goal.invariant-loop-i
invariant-loop-i l = All IsGlyphByte (take l.i l.bytes)
