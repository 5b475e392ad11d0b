-- The hull of two states, after a token that has no fault, is the hull of the two states after it.
use Rattle.std.proofs.Common.{◌≡◌, ℕ, ◌+◌, Bool, true, false, refl, ap, ◌∙◌, arith, List, ◌++◌, map}
use Rattle.std.proofs.Common.{replicate, inl, inr, lit<}
use Rattle.std.specs.Prelude.{◌-◌, take, drop, if◌then◌else◌}
use Rattle.std.proofs.lemmas.Bool.{cases_lt, lt-ltb, le-ltb}
use Rattle.std.proofs.lemmas.List.{length-map, map-append, map-set, take-map, drop-map}
use Rattle.ans_model.specs.Sequence.TokenKind.{TokenKind, Glyph, LineFeed, Clear, EraseLine, Save, Restore, Colours}
use Rattle.ans_model.specs.Sequence.TokenKind.{Wrap, Tab}
use Rattle.ans_model.specs.Screen.State.{Size, State, at, cell, cell_count, index, IsWellFormed}
use Rattle.ans_model.specs.declared.cell.Position.{Position}
use Rattle.ans_model.specs.Screen.Step.{filled, blank_cell, next_row_start, printed, step}
use Rattle.ans_model.proofs.StepLemmas.{line_feed_is}
use Rattle.ans_screen.proofs.Places.{map-replicate}
use Rattle.ans_play.specs.HalfState.{span, DescribesPosition, HalfState}
use Rattle.ans_play.specs.Hull.{whole_cell, whole, hull}
use Rattle.ans_play.specs.HalfStep.{after_last_column, after_print, wrap_of, half_step}
use Rattle.ans_play.specs.Meet.{meet}
use Rattle.ans_play.proofs.Allowed.{IsAllowed}
use Rattle.ans_play.proofs.Describing.{next_position, advance_is}
use Rattle.ans_play.proofs.MeetAttributes.{whole_after_all}
use Rattle.ans_play.proofs.SpanLemmas.{position_within, span_on_screen}
use Rattle.ans_play.proofs.MeetSteps.{FitsHalf, meet_step, same_half}

-- ---- a state of which all is known
map-filled : {A B : Type 0} (f : A → B) (xs : List A) (i j : ℕ) (x : A) →
    map f (filled xs i j x) ≡ filled (map f xs) i j (f x)
map-filled {B = B} f xs i j x =
    rw (take-map f i xs, drop-map f j xs, ← map-replicate f (j - i) x)
    (map-append f (take i xs ++ replicate (j - i) x) (drop j xs)
    ∙ ap (λ (ys : List B). ys ++ map f (drop j xs)) (map-append f (take i xs) (replicate (j - i) x)))

-- after a byte it stands where wrap takes it
whole_next : (z : Size) (w : Bool) (p : Position) →
    span (next_position z w p) (next_position z w p) ≡ after_print z (wrap_of w) p
unfolding next_position
whole_next z w p = elim (cases_lt (p.column + 1) z.width) [
  | inl more ↦ rw (lt-ltb (p.column + 1) z.width more) refl
  | inr last ↦ rw (le-ltb (p.column + 1) z.width last) (wrapped w)
]
  where
    wrapped : (w : Bool) → span (if w then at (p.row + 1) 0 else p) (if w then at (p.row + 1) 0 else p)
        ≡ after_last_column z (wrap_of w) p
    wrapped true = refl
    wrapped false = refl

-- all is known after a token too
pub whole_step : (z : Size) (s : State) (t : TokenKind) → IsAllowed z (whole s) t →
    whole (step z s t) ≡ half_step z (whole s) t
whole_step z s Clear k = same_half
    (map-replicate whole_cell (cell_count z) (blank_cell s.attribute)) refl refl refl refl
whole_step z s EraseLine k = same_half
    (map-filled whole_cell s.screen (index z s.cursor) (next_row_start z s.cursor) (blank_cell s.attribute))
    refl refl refl refl
whole_step z s Save k = refl
whole_step z s Restore k = refl
whole_step z s (Colours ps) k = same_half refl refl refl (whole_after_all s.attribute ps) refl
whole_step z s (Wrap on) k = refl
whole_step z s LineFeed k = rw (line_feed_is z s k) refl
whole_step z s (Glyph byte) k =
    rw (advance_is z (printed z s byte) k.1)
    (same_half
    (map-set whole_cell s.screen (index z s.cursor) (cell byte s.attribute))
    (whole_next z s.wrap s.cursor) refl refl refl)
whole_step z s Tab k = absurd k
whole_step z s t k = refl

-- a state of the machine, with all known of it
pub whole_fits : (z : Size) (s : State) → IsWellFormed z s → FitsHalf z (whole s)
whole_fits z s w = record {
  cells = length-map s.screen whole_cell ∙ w.fits.cells;
  cursor = span_on_screen (omega arith) (omega arith) w.fits.cursor;
  bytes = record { known = lit< tt; value = w.attribute };
}

-- what is allowed where the cursor may stand is allowed where it stands
pub allowed_within : (z : Size) (h : HalfState) (s : State) (t : TokenKind) → DescribesPosition h.cursor s.cursor →
    IsAllowed z h t → IsAllowed z (whole s) t
allowed_within z h s (Glyph byte) d k = (refl, omega (arith, k.1, d.high_row, ap (λ (p : Position). p.row) k.0))
allowed_within z h s EraseLine d k = refl
allowed_within z h s LineFeed d k = omega (arith, k, d.high_row)
allowed_within z h s Tab d k = k
allowed_within z h s _ d k = tt

-- ---- two states
pub hull_step : (z : Size) (a b : State) (t : TokenKind) → IsWellFormed z a → IsWellFormed z b →
    IsAllowed z (hull a b) t → hull (step z a t) (step z b t) ≡ half_step z (hull a b) t
hull_step z a b t p q k =
    let in_a : IsAllowed z (whole a) t = allowed_within z (hull a b) a t
    (position_within (omega arith) (omega arith) (omega arith) (omega arith)) k in
    let in_b : IsAllowed z (whole b) t = allowed_within z (hull a b) b t
    (position_within (omega arith) (omega arith) (omega arith) (omega arith)) k in
    ap (λ (g : HalfState). meet g (whole (step z b t))) (whole_step z a t in_a)
    ∙ ap (λ (h : HalfState). meet (half_step z (whole a) t) h) (whole_step z b t in_b)
    ∙ meet_step z (whole a) (whole b) (whole_fits z a p) (whole_fits z b q) t k
