use Rattle.std.proofs.Common.{◌≡◌, ◌≢◌, ◌<◌, ◌∙◌, ℕ, List, ap, sym, refl, arith, rules, true, set, None}
use Rattle.std.proofs.lemmas.Bool.{ne_eqb}
use Rattle.std.proofs.lemmas.List.Elements.{All-set}
use Rattle.std.specs.Prelude.{Err}
use Rattle.ans_model.specs.Screen.State.{Size, index}
use Rattle.ans_model.specs.declared.cell.Position.{Position}
use Rattle.ans_model.specs.Sequence.TokenKind.{Glyph}
use Rattle.ans_screen.specs.HalfCells.{printed_cell}
use Rattle.ans_screen.specs.KnownBits.{KnownBits}
use Rattle.ans_screen.specs.declared.cell.HalfCell.{HalfCell}
use Rattle.ans_tokens.specs.ScannerView.{ScannerView}
use Rattle.ans_play.specs.HalfFault.{half_print_fault, is_one_position}
use Rattle.ans_play.specs.HalfState.{half_state}
use Rattle.ans_play.specs.HalfStep.{after_print}
use Rattle.ans_play.specs.PlayView.{IsByteHalfCell, PlayView, play_view}
use Rattle.ans_play.specs.Plays.{after_token}
use Rattle.ans_play.specs.declared.span.Span.{Span}
use Rattle.ans_play.specs.declared.wrap.WrapMode.{WrapMode}
use Rattle.ans_play.proofs.play.Play.print.Goals as goal

-- a byte printed where the cursor stands
byte_is_played : (z : Size) (scanner : ScannerView) (screen new : List HalfCell) (cursor saved after : Span)
    (attribute : KnownBits) (wrap : WrapMode) (byte : ℕ) → is_one_position cursor ≡ true
    → cursor.low.row < z.lines → new ≡ set screen (index z cursor.low) (printed_cell attribute byte)
    → after ≡ after_print z wrap cursor.low
    → (half_print_fault z (half_state screen cursor saved attribute wrap) ≡ None)
    × (play_view z scanner (half_state new after saved attribute wrap)
    ≡ after_token (play_view z scanner (half_state screen cursor saved attribute wrap)) (Glyph byte))
byte_is_played z scanner screen new cursor saved after attribute wrap byte one above cells moved =
    let ne : cursor.low.row ≢ z.lines = omega (arith, above) in
    (rw (one, ne_eqb cursor.low.row z.lines ne) refl, rw (cells, moved) refl)

pub returns-in_err-position : goal.returns-in_err-position
returns-in_err-position g c =
    let same : c.from_residual.result ≡ Err c.in_err-position.field-0.0 = search rules in
    rw same (c.in_err-position.ensures.fault, refl)

pub invariant_of-self : goal.invariant_of-self
invariant_of-self g c = record {
  cells = cc (g.met.G.Screen.whole c.put_at.new.grid, g.met.G.Screen.whole c.self.inside.grid);
  bytes = rw c.put_at.ensures.cells
      (All-set IsByteHalfCell _ _ _ (omega (arith, c.ranges.byte.fits), c.self.invariant.attribute)
      c.self.invariant.bytes);
  attribute = c.self.invariant.attribute;
  cursor = c.after_print-self-inside.ensures.on_screen;
  saved = c.self.invariant.saved;
}

pub returns : goal.returns
returns g c =
    let view = c.self.view_is in
    let here : c.in_ok-position.position ≡ c.self.inside.cursor.low =
    c.in_ok-position.ensures.one.0 ∙ sym (ap (λ (p : PlayView). p.state.cursor.low) view) in
    let one : is_one_position c.self.inside.cursor ≡ true =
    ap (λ (p : PlayView). is_one_position p.state.cursor) view ∙ c.in_ok-position.ensures.one.1 in
    let row = ap (λ (p : Position). p.row) here in
    let lines = ap (λ (p : PlayView). p.size.lines) view in
    let above : c.self.inside.cursor.low.row < c.self.inside.size.lines =
    omega (arith, row, lines, c.in_ok-position.ensures.above) in
    rw (← view)
    (byte_is_played c.self.inside.size c.self.inside.scanner (g.G.Screen.cells_of c.self.inside.grid)
    (g.G.Screen.cells_of c.put_at.new.grid) c.self.inside.cursor c.self.inside.saved c.after_print-self-inside.result
    c.self.inside.attribute c.self.inside.wrap c.args.byte one above
    (rw (here, c.self.inside.grid_width) at c.put_at.ensures.cells)
    (rw here at c.after_print-self-inside.ensures.after_print))
