-- What a run of plain bytes does to the plays that look for faults and for moves.
use Rattle.std.proofs.Common.{ℕ, suc, ◌<◌, true, List, length, get_or}
use Rattle.std.proofs.Common.{refl, sym, ap, ap₂, subst, arith}
use Rattle.ans_model.specs.Bytes.{IsByte}
use Rattle.ans_model.specs.Sequence.TokenKind.{Glyph}
use Rattle.ans_tokens.specs.Walk.{Front, IsRunNext, front_past}
use Rattle.ans_tokens.proofs.Runs.{KeptByBytes, kept_past}
use Rattle.ans_pens.specs.Pens.{further}
use Rattle.ans_pens.specs.Walkers.{HasMoved, HasPlayed, StayInRows, StaysAbove}
use Rattle.ans_pens.specs.declared.lines.ClearedPlay.{ClearedPlay}
use Rattle.ans_pens.specs.declared.pen.Pen.{Pen}
use Rattle.ans_pens.specs.declared.taller.Moves.{Moves}
use Rattle.ans_pens.proofs.GoodFound.{play_goes_on}
use Rattle.ans_pens.proofs.PenSteps.{byte_further, further_zero}
use Rattle.ans_pens.proofs.TallerFound.{goes_on_over}

-- ---- the play that looks for faults
module _ (first old : ClearedPlay) (front : Front) (run behind : List ℕ) (offset : ℕ)
    (h : HasPlayed first front.tokens true old) (bytes : (k : ℕ) → k < length run → IsByte (get_or run k 0))
    (next : IsRunNext front offset run behind) (stays : StaysAbove old (length run)) where
  abbrev play_at : ℕ → ClearedPlay
  play_at k = record old { pen = further old.pen k }

  play_by_byte : KeptByBytes (λ k front. HasPlayed first front.tokens true (play_at k)) offset run behind
  play_by_byte k byte front rest n h =
      play_goes_on first (play_at k) front.tokens (Glyph byte) h (omega (arith, stays.stays)) (play_at (suc k)) refl
      (λ s e. subst (λ (p : Pen). p.cursor.row < old.size.lines) e stays.above)
      (λ s e. byte_further old.size old.pen k byte (omega (arith, n.within, stays.stays)) s e)

  pub walked_play : HasPlayed first (front_past front run behind).tokens true (play_at (length run))
  walked_play =
      kept_past (λ k front. HasPlayed first front.tokens true (play_at k)) offset run behind front bytes play_by_byte
      next
      (subst (λ (w : ClearedPlay). HasPlayed first front.tokens true w)
      (sym (ap (λ (p : Pen). record old { pen = p }) (further_zero old.pen))) h)

-- ---- the plays that look for moves
module _ (first old : Moves) (front : Front) (run behind : List ℕ) (offset : ℕ)
    (h : HasMoved first front.tokens true old) (bytes : (k : ℕ) → k < length run → IsByte (get_or run k 0))
    (next : IsRunNext front offset run behind) (stays : StayInRows old (length run)) where
  abbrev pub moves_at : ℕ → Moves
  moves_at k = record old { low = further old.low k; high = further old.high k }

  moves_by_byte : KeptByBytes (λ k front. HasMoved first front.tokens true (moves_at k)) offset run behind
  moves_by_byte k byte front rest n h =
      goes_on_over first (moves_at k) front.tokens (Glyph byte) h (omega (arith, stays.low)) (moves_at (suc k)) refl tt
      (λ s e. byte_further old.size old.low k byte (omega (arith, n.within, stays.low)) s e)
      (λ s e. byte_further old.size old.high k byte (omega (arith, n.within, stays.high)) s e)

  pub walked_moves : HasMoved first (front_past front run behind).tokens true (moves_at (length run))
  walked_moves =
      kept_past (λ k front. HasMoved first front.tokens true (moves_at k)) offset run behind front bytes moves_by_byte
      next
      (subst (λ (w : Moves). HasMoved first front.tokens true w) (sym (ap₂ (λ (p q : Pen).
      record old { low = p; high = q }) (further_zero old.low) (further_zero old.high))) h)
