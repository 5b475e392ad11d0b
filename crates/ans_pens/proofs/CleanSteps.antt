-- Clean tokens write above the spare row, from every start, so what is kept of their plays is that of their states.
use Rattle.std.proofs.Common.{◌≡◌, ◌≢◌, ◌<◌, refl, sym, ap, ◌∙◌, arith, subst, List, [], ◌∷◌, ◌++◌, length, take, Some}
use Rattle.std.proofs.Common.{fold, replicate}
use Rattle.std.specs.Prelude.{slice_get}
use Rattle.std.proofs.lemmas.List.{take-append-le, take_at}
use Rattle.std.proofs.lemmas.List.Sums.{fold-append}
use Rattle.std.proofs.lemmas.Option.{slice_get_within}
use Rattle.ans_model.specs.Bytes.{blank}
use Rattle.ans_model.specs.Sequence.TokenKind.{TokenKind, Glyph, LineFeed, Tab}
use Rattle.ans_model.specs.Screen.State.{Size, State, FitsScreen}
use Rattle.ans_model.specs.Screen.Step.{put, step, final}
use Rattle.ans_model.specs.Screen.StartClass.{IsStart, low_start, high_start}
use Rattle.ans_model.specs.declared.cell.Position.{Position}
use Rattle.ans_model.specs.declared.start.Start.{Start}
use Rattle.ans_model.specs.Verdict.TokenFault.{HasFault, IsClean, IsInSpareRow, then_blanks}
use Rattle.ans_model.specs.Verdict.Good.{PrintsWell}
use Rattle.ans_model.proofs.CleanLemmas.{no_feed_below, prints_well, tabs_well}
use Rattle.ans_model.proofs.Slices.{slice_get-append_left}
use Rattle.ans_model.proofs.StartLemmas.{low_is_start, high_is_start}
use Rattle.ans_model.proofs.TabLemmas.{final_then_blanks}
use Rattle.ans_model.proofs.WellFormed.{fits_after_tokens}
use Rattle.ans_pens.specs.CellPlays.{kept, WritesAbove, AreKept}
use Rattle.ans_pens.specs.declared.cell_play.CellPlay.{CellPlay}
use Rattle.ans_pens.specs.declared.two_cell_plays.TwoCellPlays.{TwoCellPlays}
use Rattle.ans_pens.proofs.CellPlaySteps.{fits_after_blanks}

-- the first of clean tokens are clean
pub clean_front : (z : Size) (class : Start) (xs ys : List TokenKind) → IsClean z class (xs ++ ys) → IsClean z class xs
clean_front z class xs ys clean k cause b =
    let within : k < length xs = slice_get_within xs k b.0 b.1 in
    clean k cause (
      b.0,
      slice_get-append_left xs ys k within ∙ b.1,
      subst (λ (ts : List TokenKind). HasFault z class ts b.0 cause) (sym (take-append-le k xs ys (omega arith))) b.2,
    )

-- the element after a list
pub slice_get_last : (xs : List TokenKind) (t : TokenKind) → slice_get (xs ++ t ∷ []) (length xs) ≡ Some t
slice_get_last [] t = refl
slice_get_last (x ∷ xs) t = slice_get_last xs t

module _ (z : Size) (class : Start) (tokens : List TokenKind) (some : 0 < z.width) (s : State)
    (start : IsStart z class s) where
  -- the state fits its screen
  pub fits_there : FitsScreen z (final z s tokens)
  fits_there = fits_after_tokens z s tokens some start.well_formed.fits

  -- the tokens before the last
  before : (t : TokenKind) → take (length tokens) (tokens ++ t ∷ []) ≡ tokens
  before t = take_at tokens (t ∷ []) (length tokens) refl

  -- the last of clean tokens writes above the spare row
  pub writes_above : (t : TokenKind) → IsClean z class (tokens ++ t ∷ []) → WritesAbove z (final z s tokens) t
  writes_above LineFeed clean =
      let above : ¬ IsInSpareRow z tokens s =
      rw (before LineFeed) at (no_feed_below z class (tokens ++ LineFeed ∷ []) clean (length tokens)
      (slice_get_last tokens LineFeed) s start) in
      omega (arith, above, fits_there.cursor.0)
  writes_above (Glyph byte) clean =
      let well : PrintsWell z class tokens =
      rw (before (Glyph byte)) at (prints_well z class (tokens ++ Glyph byte ∷ []) clean (length tokens) byte
      (slice_get_last tokens (Glyph byte))) in
      omega (arith, well.never_below s start, fits_there.cursor.0)
  writes_above Tab clean = λ n lt.
      let well : PrintsWell z class (then_blanks tokens n) =
      rw (before Tab) at (tabs_well z class (tokens ++ Tab ∷ []) clean (length tokens) n
      (slice_get_last tokens Tab) (s, start, rw (before Tab) lt)) in
      let above : (fold (put z) (final z s tokens) (replicate n blank)).cursor.row ≢ z.lines =
      rw (final_then_blanks z s tokens n) at (well.never_below s start) in
      omega (arith, above, (fits_after_blanks z (final z s tokens) n some fits_there).cursor.0)
  writes_above _ clean = tt

-- what a step of a play of a cell ensures
abbrev pub StepsCellPlay : Size → Position → CellPlay → TokenKind → CellPlay → Type 0
StepsCellPlay z p old t new = (s : State) → old ≡ kept z p s → FitsScreen z s → WritesAbove z s t
    → new ≡ kept z p (step z s t)

-- from a start, where the last of clean tokens is a step
kept_from : (z : Size) (class : Start) (p : Position) (tokens : List TokenKind) (t : TokenKind) (s : State)
    (old new : CellPlay) → 0 < z.width → IsStart z class s → IsClean z class (tokens ++ t ∷ [])
    → old ≡ kept z p (final z s tokens) → StepsCellPlay z p old t new
    → new ≡ kept z p (final z s (tokens ++ t ∷ []))
kept_from z class p tokens t s old new some start clean was steps =
    steps (final z s tokens) was (fits_there z class tokens some s start)
    (writes_above z class tokens some s start t clean)
    ∙ ap (λ (u : State). kept z p u) (sym (fold-append (step z) s tokens (t ∷ [])))

-- so what is kept is again that of the two plays
pub kept_more : (z : Size) (class : Start) (p : Position) (tokens : List TokenKind) (t : TokenKind)
    (old new : TwoCellPlays) → 0 < z.width → IsClean z class (tokens ++ t ∷ []) → AreKept z class p tokens old
    → StepsCellPlay z p old.low t new.low → StepsCellPlay z p old.high t new.high
    → AreKept z class p (tokens ++ t ∷ []) new
kept_more z class p tokens t old new some clean was low high = record {
  low = kept_from z class p tokens t (low_start z class) old.low new.low some (low_is_start z class some) clean
      was.low low;
  high = kept_from z class p tokens t (high_start z class) old.high new.high some (high_is_start z class some)
      clean was.high high;
}
