-- Of a run that stays in its row no byte wraps, so players that are in sync are so after it.
use Rattle.std.proofs.Common.{◌≡◌, ℕ, suc, ◌+◌, ◌<◌, Bool, false, ap}
use Rattle.std.proofs.Common.{◌∙◌, arith}
use Rattle.std.specs.Prelude.{◌==◌, ◌&&◌, if◌then◌else◌}
use Rattle.std.proofs.lemmas.Bool.{and_right, ne_eqb}
use Rattle.ans_model.specs.Screen.State.{Size, State}
use Rattle.ans_model.specs.Sequence.TokenKind.{Glyph}
use Rattle.ans_players.specs.Sync.{InSync, AfterWrap, sync_after}
use Rattle.ans_pens.specs.Pens.{further, pen_of}
use Rattle.ans_pens.specs.declared.pen.Pen.{Pen}
use Rattle.ans_pens.proofs.PenSteps.{goes_on}

pub byte_in_sync : (z : Size) (pen : Pen) (k b : ℕ) → pen.cursor.column + suc k < z.width → (s : State)
    → further pen k ≡ pen_of s → sync_after z InSync s (Glyph b) ≡ InSync
byte_in_sync z pen k b stays s here =
    let inside : ((s.cursor.column + 1) == 0) ≡ false =
    ne_eqb (s.cursor.column + 1) 0 (λ e. absurd (omega (arith, e))) in
    ap (λ (t : State). if t.wrap && t.cursor.column == 0 then AfterWrap else InSync) (goes_on z pen k b stays s here)
    ∙ ap (λ (b : Bool). if b then AfterWrap else InSync) (and_right s.wrap _ inside)
