-- Which pictures can be drawn.
use Rattle.std.specs.Prelude.{◌≡◌, ◌≢◌, ℕ, Bool, IsTrue, List, ◌++◌, All}
use Rattle.std.specs.List.{list_all}
use Rattle.ans_model.specs.Bytes.{IsByte, escape, end_mark}
use Rattle.ans_model.specs.Sequence.TokenKind.{Glyph}
use Rattle.ans_model.specs.Sequence.Reads.{kind_of_byte}
use Rattle.ans_model.specs.Screen.State.{Size, IsSize}
use Rattle.ans_model.specs.Verdict.Good.{Picture, IsPictureOf}
use Rattle.ans_players.specs.declared.difference.Difference.{Difference}
use Rattle.ans_players.specs.declared.difference.Difference.TheVariants.{PageControls, TerminalControls}
use Rattle.ans_players.specs.Situations.{kind_if, is_page_control, is_terminal_control}

-- the byte is printed: it is no token of another kind, begins no sequence, and does not end the content
pub record IsPrinted (byte : ℕ) : Type 0 where
  pub is_byte : IsByte byte
  pub not_escape : byte ≢ escape
  pub not_end_mark : byte ≢ end_mark
  pub means_itself : kind_of_byte byte ≡ Glyph byte

-- a picture of this size, of cells whose bytes are printed
pub record IsDrawable (z : Size) (picture : Picture) : Type 0 where
  pub size : IsSize z
  pub is_picture : IsPictureOf z picture
  pub printed : All (λ c. IsPrinted c.byte) picture.cells

-- the kinds of a printed byte: players differ in how they draw some
abbrev pub shown_kinds : ℕ → List Difference
shown_kinds byte =
    kind_if (is_page_control byte) PageControls ++ kind_if (is_terminal_control byte) TerminalControls

-- the kinds of the picture's own bytes are agreed
abbrev pub BytesAreAgreed : (Difference → Bool) → Picture → Type 0
BytesAreAgreed agreed picture = All (λ c. IsTrue (list_all agreed (shown_kinds c.byte))) picture.cells
