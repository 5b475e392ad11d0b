-- What a step does to the cell that is kept.
use Rattle.std.proofs.Common.{◌≡◌, ◌≢◌, ℕ, ◌≤◌, List, sym, ap, ◌∙◌, Option}
use Rattle.std.specs.Prelude.{unwrap_or}
use Rattle.ans_model.specs.Screen.State.{Size, State, FitsScreen, IsOnScreen, cell_at}
use Rattle.ans_model.specs.Screen.Step.{blank_cell, printed, step}
use Rattle.ans_model.specs.Sequence.TokenKind.{EraseLine}
use Rattle.ans_model.specs.declared.cell.Cell.{Cell}
use Rattle.ans_model.specs.declared.cell.Position.{Position}
use Rattle.ans_model.proofs.ChangedCells.{cell_beside_printed, cell_beside_erased}
use Rattle.ans_pens.specs.Pens.{pen_of}
use Rattle.ans_pens.specs.declared.pen.Pen.{Pen}
use Rattle.ans_pens.specs.CellPlays.{kept}
use Rattle.ans_pens.specs.declared.cell_play.CellPlay.{CellPlay}

-- the play with the cell that a screen has there
abbrev with_cell : Size → Position → State → Option Cell → CellPlay
with_cell z p s found = record (kept z p s) { cell = unwrap_or found (blank_cell 0x07) }

-- where a state has the screen of another, what is kept of this has the cell of that
pub play_with_screen : (z : Size) (p : Position) (s t : State) (w : CellPlay) (pen : Pen) → w ≡ kept z p s
    → pen ≡ pen_of t → t.screen ≡ s.screen → (record w { pen = pen }) ≡ kept z p t
play_with_screen z p s t w pen e pen_is screen =
    let cell : (kept z p s).cell ≡ (kept z p t).cell =
    ap (λ (cells : List Cell). unwrap_or (cell_at z cells p) (blank_cell 0x07)) (sym screen) in
    (λ i. record { pen = pen_is i; cell = (ap (λ (v : CellPlay). v.cell) e ∙ cell) i })

module _ (z : Size) (p : Position) (s : State) (fits : FitsScreen z s) (on : IsOnScreen z p) where
  -- a byte that is printed elsewhere
  pub printed_elsewhere : (byte : ℕ) → s.cursor ≢ p → kept z p (printed z s byte) ≡ kept z p s
  printed_elsewhere byte other =
      ap (with_cell z p s) (cell_beside_printed z s fits byte p on (λ e. other (sym e)))

  -- a line that is erased elsewhere
  pub erased_elsewhere : ¬ ((p.row ≡ s.cursor.row) × (s.cursor.column ≤ p.column))
      → kept z p (step z s EraseLine) ≡ kept z p s
  erased_elsewhere outside = ap (with_cell z p s) (cell_beside_erased z s fits p on outside)
