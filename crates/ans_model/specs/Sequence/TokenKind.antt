-- What the content consists of, as the machine takes it.
use Rattle.std.specs.Prelude.{ℕ, Bool, List}
use Rattle.ans_model.specs.Bytes.{IsByte}

-- a byte outside sequences, or what a sequence means; rows and columns are counted from 1
pub data TokenKind : Type 0 where
  Glyph : (byte : ℕ) → TokenKind
  Bell : TokenKind
  BackSpace : TokenKind
  LineFeed : TokenKind
  CarriageReturn : TokenKind
  Tab : TokenKind
  Up : (n : ℕ) → TokenKind
  Down : (n : ℕ) → TokenKind
  Forward : (n : ℕ) → TokenKind
  Backward : (n : ℕ) → TokenKind
  Place : (row column : ℕ) → TokenKind
  Clear : TokenKind
  EraseLine : TokenKind
  Save : TokenKind
  Restore : TokenKind
  Colours : (parameters : List ℕ) → TokenKind
  Wrap : (on : Bool) → TokenKind
  Mode : TokenKind
  Keys : TokenKind
  Ask : TokenKind

-- what is printed is a byte
abbrev pub PrintsByte : TokenKind → Type 0
PrintsByte (Glyph byte) = IsByte byte
PrintsByte _ = Unit {0}
