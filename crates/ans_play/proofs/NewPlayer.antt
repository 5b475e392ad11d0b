-- A new play has played no bytes.
use Rattle.std.proofs.Common.{◌≡◌, ℕ, ◌*◌, ◌+◌, ◌-◌, ◌≤◌, arith, sym, ap, ◌∙◌, List, [], replicate, length, mul_comm}
use Rattle.std.proofs.Common.{lit<, Bool, true, false, subst}
use Rattle.ans_model.specs.Bytes.{IsByte}
use Rattle.std.proofs.lemmas.List.{length-replicate}
use Rattle.std.proofs.lemmas.List.Elements.{All-replicate}
use Rattle.ans_model.specs.Screen.State.{Size, IsSize, sized, cell_count}
use Rattle.ans_model.specs.declared.start.Start.{Start}
use Rattle.ans_tokens.specs.ScannerView.{ScannerView, new_scanner}
use Rattle.ans_screen.specs.KnownBits.{KnownBits}
use Rattle.ans_screen.specs.declared.cell.HalfCell.{HalfCell}
use Rattle.ans_play.specs.declared.span.Span.{Span}
use Rattle.ans_play.specs.declared.wrap.WrapMode.{WrapMode}
use Rattle.ans_play.specs.HalfStart.{start_cell, start_span, start_attribute, start_wrap, half_start}
use Rattle.ans_play.specs.HalfState.{HalfState, half_state, IsSpanOnScreen}
use Rattle.ans_play.specs.PlayView.{play_view, IsByteHalfCell, IsPlayView}
use Rattle.ans_play.specs.Stands.{IsPlayed}
use Rattle.ans_tokens.proofs.ReadSoFar.{nothing_read}
use Rattle.ans_play.proofs.KnownAfter.{known_at_start}
use Rattle.ans_play.proofs.MeetSteps.{same_half}
use Rattle.ans_play.proofs.Clean.{clean_none}

-- what is known of the starts is what a play of no bytes knows
played_none : (z : Size) (start : Start) → IsSize z → IsPlayed z start [] new_scanner (half_start z start)
played_none z start size = record {
  size = size;
  so_far = nothing_read;
  clean = clean_none z start;
  known = known_at_start z start;
}

-- the cells of a new grid, counted the other way round
in_rows : (z : Size) (cells : List HalfCell) (c : HalfCell) → cells ≡ replicate (z.width * (z.lines + 1)) c →
    cells ≡ replicate (cell_count z) c
in_rows z cells c e = e ∙ ap (λ (n : ℕ). replicate n c) (mul_comm z.width (z.lines + 1))

-- a screen of a grid's size has a row for each line, and one more
pub in_size : (z : Size) (w r width rows : ℕ) → z ≡ sized width (rows - 1) → width ≡ w → rows ≡ r → 2 ≤ r →
    w * r ≡ z.width * (z.lines + 1)
in_size z w r width rows e a b two =
    let next : r ≡ (r - 1) + 1 = omega arith in
    rw (e, a, b) (ap (λ (n : ℕ). w * n) next)

-- from the parts that the code chooses
pub played_at_start : (z : Size) (class : Start) (cells : List HalfCell) (cell : HalfCell) (cursor saved : Span)
    (attribute : KnownBits) (wrap : WrapMode) → IsSize z → cell ≡ start_cell class.screen →
    cursor ≡ start_span z class.cursor → saved ≡ start_span z class.saved → attribute ≡ start_attribute class.colours →
    wrap ≡ start_wrap class.wrap → cells ≡ replicate (z.width * (z.lines + 1)) cell →
    IsPlayed z class [] new_scanner (half_state cells cursor saved attribute wrap)
played_at_start z class cells cell cursor saved attribute wrap size a b c d f e =
    subst (λ (h : HalfState). IsPlayed z class [] new_scanner h)
    (sym (same_half
    (in_rows z cells cell e ∙ ap (λ (x : HalfCell). replicate (cell_count z) x) a) b c d f))
    (played_none z class size)

cell_is_bytes : (known : Bool) → IsByteHalfCell (start_cell known)
cell_is_bytes true = (lit< tt, lit< tt)
cell_is_bytes false = (tt, lit< tt)

attribute_is_byte : (known : Bool) → IsByte (start_attribute known).value
attribute_is_byte true = lit< tt
attribute_is_byte false = lit< tt

-- the parts that the code chooses fit the screen
pub fits_at_start : (z : Size) (class : Start) (scanner : ScannerView) (cells : List HalfCell) (cell : HalfCell)
    (cursor saved : Span) (attribute : KnownBits) (wrap : WrapMode) → cell ≡ start_cell class.screen →
    IsSpanOnScreen z cursor → IsSpanOnScreen z saved → attribute ≡ start_attribute class.colours →
    cells ≡ replicate (z.width * (z.lines + 1)) cell →
    IsPlayView (play_view z scanner (half_state cells cursor saved attribute wrap))
fits_at_start z class scanner cells cell cursor saved attribute wrap a on_cursor on_saved d e = record {
  cells = ap length (in_rows z cells cell e) ∙ length-replicate (cell_count z) cell;
  bytes = rw e (All-replicate IsByteHalfCell (z.width * (z.lines + 1)) cell (rw a (cell_is_bytes class.screen)));
  attribute = rw d (attribute_is_byte class.colours);
  cursor = on_cursor;
  saved = on_saved;
}
