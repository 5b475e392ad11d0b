use Rattle.std.proofs.Common.{◌≡◌, ℕ, ◌<◌, get_or}
use Rattle.std.specs.Prelude.{unwrap_or}
use Rattle.ans_screen.specs.CellPlanes.{glyph_of}
use Rattle.ans_screen.proofs.planes.copy_known_glyphs.Given as goal

-- the glyphs so far are copied
abbrev pub invariant-loop-i : goal.invariant-loop-i
invariant-loop-i l =
    (k : ℕ) → k < l.i → get_or l.copied k 0 ≡ unwrap_or (glyph_of (get_or l.glyphs k 0) (get_or l.glyphs_known k 0)) 0
