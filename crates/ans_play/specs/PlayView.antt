-- A play, as contracts see it.
use Rattle.std.specs.Prelude.{◌≡◌, length, All, IfSome}
use Rattle.ans_model.specs.Bytes.{IsByte}
use Rattle.ans_model.specs.Screen.State.{Size, cell_count}
use Rattle.ans_tokens.specs.ScannerView.{ScannerView}
use Rattle.ans_screen.specs.declared.cell.HalfCell.{HalfCell}
use Rattle.ans_play.specs.HalfState.{HalfState, IsSpanOnScreen}

-- the stated size, the scanner, and what is known of the state after the tokens that it has read
pub record PlayView : Type 0 where
  pub size : Size
  pub scanner : ScannerView
  pub state : HalfState

-- what is known of the cell are bytes
abbrev pub IsByteHalfCell : HalfCell → Type 0
IsByteHalfCell c = IfSome c.glyph IsByte × IsByte c.attr.value

-- the state fits its screen, and what is known are bytes
pub record IsPlayView (p : PlayView) : Type 0 where
  pub cells : length p.state.screen ≡ cell_count p.size
  pub bytes : All IsByteHalfCell p.state.screen
  pub attribute : IsByte p.state.attribute.value
  pub cursor : IsSpanOnScreen p.size p.state.cursor
  pub saved : IsSpanOnScreen p.size p.state.saved

-- the play of these three
abbrev pub play_view : Size → ScannerView → HalfState → PlayView
play_view size scanner state = record { size = size; scanner = scanner; state = state }
