use Rattle.std.proofs.Common.{◌≤◌, ◌-◌, length, take, All}
use Rattle.ans_tokens.specs.Glyphs.{IsGlyphByte}
use Rattle.ans_tokens.proofs.glyphs.count_text.Given as goal

-- the bytes so far are glyphs
abbrev pub invariant-loop-count : goal.invariant-loop-count
invariant-loop-count l = record {
  within : l.count ≤ length l.bytes;
  glyphs : All IsGlyphByte (take l.count l.bytes);
}

abbrev pub decreases-loop-count : goal.decreases-loop-count
decreases-loop-count l = length l.bytes - l.count
