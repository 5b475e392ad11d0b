-- What a token that changes no cell, and the blanks of a tab, do to a state.
use Rattle.std.proofs.Common.{◌≡◌, ◌≢◌, ℕ, ◌<◌, refl, ap, fold, replicate}
use Rattle.ans_model.specs.Bytes.{blank}
use Rattle.ans_model.specs.Inside.ShownKind.{shown_kind}
use Rattle.ans_model.specs.declared.kind.Kind.{Kind}
use Rattle.ans_model.specs.declared.kind.Kind.TheVariants.{Glyph, Tab, Clear, EraseLine, LineFeed}
use Rattle.ans_model.specs.Sequence.TokenKind as token
use Rattle.ans_model.specs.Screen.State.{Size, State, FitsScreen}
use Rattle.ans_model.specs.Screen.Step.{put, step}
use Rattle.ans_model.proofs.StepLemmas.{line_feed_is}
use Rattle.ans_model.proofs.TabLemmas.{blanks_are_glyphs}
use Rattle.ans_model.proofs.WellFormed.{fits_after_tokens}
use Rattle.ans_pens.specs.CellPlays.{WritesAbove}

-- a token that writes no cell leaves the screen as it is, above the spare row
pub same_screen : (z : Size) (s : State) (k : Kind) → ((byte : ℕ) → k ≢ Glyph byte) → k ≢ Tab → k ≢ Clear
    → k ≢ EraseLine → WritesAbove z s (shown_kind k) → (step z s (shown_kind k)).screen ≡ s.screen
same_screen z s (Glyph byte) glyph tab clear erase above = absurd (glyph byte refl)
same_screen z s Tab glyph tab clear erase above = absurd (tab refl)
same_screen z s Clear glyph tab clear erase above = absurd (clear refl)
same_screen z s EraseLine glyph tab clear erase above = absurd (erase refl)
same_screen z s LineFeed glyph tab clear erase above = ap (λ (t : State). t.screen) (line_feed_is z s above)
same_screen z s _ glyph tab clear erase above = refl

-- blanks leave a state that fits its screen
pub fits_after_blanks : (z : Size) (s : State) (n : ℕ) → 0 < z.width → FitsScreen z s
    → FitsScreen z (fold (put z) s (replicate n blank))
fits_after_blanks z s n some fits =
    rw (blanks_are_glyphs z s n) (fits_after_tokens z s (replicate n (token.Glyph blank)) some fits)
