-- What a pass means: from every start of the class the content plays without a fault and shows one picture.
use Rattle.std.specs.Prelude.{◌≡◌, ℕ, ◌*◌, List, length, take, slice_get, All, Some}
use Rattle.ans_model.specs.Sequence.TokenKind.{TokenKind, Glyph, LineFeed, Tab, EraseLine}
use Rattle.ans_model.specs.Sequence.Reads.{Reads}
use Rattle.ans_model.specs.Screen.State.{Size, IsSize, State, IsByteCell, IsStated, cell_at}
use Rattle.ans_model.specs.declared.cell.Cell.{Cell}
use Rattle.ans_model.specs.declared.cell.Position.{Position}
use Rattle.ans_model.specs.Screen.Step.{final}
use Rattle.ans_model.specs.Screen.StartClass.{IsStart}
use Rattle.ans_model.specs.declared.start.Start.{Start}
use Rattle.ans_model.specs.Verdict.TokenFault.{HasStaticFault, FromEvery, FromSome, SamePosition, IsInSpareRow}
use Rattle.ans_model.specs.Verdict.TokenFault.{then_blanks, TabGoesOn}
use Rattle.ans_model.specs.declared.fault.Cause.{Cause}

-- a picture: its cells in row order
pub record Picture : Type 0 where
  pub size : Size
  pub cells : List Cell

-- it has a byte and an attribute at each position of the stated lines
pub record IsPictureOf (z : Size) (picture : Picture) : Type 0 where
  pub size : picture.size ≡ z
  pub count : length picture.cells ≡ z.lines * z.width
  pub bytes : All IsByteCell picture.cells

-- from every start the stated lines of the final screen are the picture
pub record Shows (z : Size) (class : Start) (tokens : List TokenKind) (picture : Picture) : Type 0 where
  pub is_picture : IsPictureOf z picture
  pub shown : (s : State) (p : Position) → IsStart z class s → IsStated z p
      → cell_at z (final z s tokens).screen p ≡ cell_at z picture.cells p

-- a byte is printed after these tokens at one position from every start, and from none below the stated lines
pub record PrintsWell (z : Size) (class : Start) (played : List TokenKind) : Type 0 where
  pub at_one_position : SamePosition z class played
  pub never_below : FromEvery z class (λ s. ¬ IsInSpareRow z played s)

-- No token has a static fault, none scrolls or prints below the stated lines from any start, and whatever is printed or
-- erased is at the same position from every start. A tab prints as each of its blanks does.
pub record PlaysWell (z : Size) (class : Start) (tokens : List TokenKind) : Type 0 where
  pub no_static_fault : (k : ℕ) (t : TokenKind) (cause : Cause) → slice_get tokens k ≡ Some t
      → ¬ HasStaticFault z t cause
  pub never_scrolls : (k : ℕ) → slice_get tokens k ≡ Some LineFeed
      → FromEvery z class (λ s. ¬ IsInSpareRow z (take k tokens) s)
  pub prints_well : (k byte : ℕ) → slice_get tokens k ≡ Some (Glyph byte) → PrintsWell z class (take k tokens)
  pub tabs_well : (k n : ℕ) → slice_get tokens k ≡ Some Tab → FromSome z class (TabGoesOn z (take k tokens) n)
      → PrintsWell z class (then_blanks (take k tokens) n)
  pub erases_at_one_position : (k : ℕ) → slice_get tokens k ≡ Some EraseLine → SamePosition z class (take k tokens)

-- the content reads as tokens that play well and show this picture
pub record GoodWith (z : Size) (class : Start) (content : List ℕ) (picture : Picture) : Type 0 where
  pub size : IsSize z
  pub tokens : List TokenKind
  pub reads : Reads content tokens
  pub plays : PlaysWell z class tokens
  pub shows : Shows z class tokens picture

-- The content is good: it shows some picture.
abbrev pub IsGood : Size → Start → List ℕ → Type 0
IsGood z class content = (picture : Picture) × GoodWith z class content picture
