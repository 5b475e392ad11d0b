use Rattle.ans_laws.proofs.StepChanges.{glyph_prints, glyph_scrolls}
use Rattle.ans_laws.proofs.step_laws.glyphs_print.Goals as goal

pub returns : goal.returns
returns c = record { printed = glyph_prints; scrolls = glyph_scrolls }
