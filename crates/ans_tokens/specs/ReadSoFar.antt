-- Where a reader is in the bytes.
use Rattle.std.specs.Prelude.{◌≡◌, List, ℕ, ◌++◌, length, None}
use Rattle.ans_model.specs.Sequence.TokenKind.{TokenKind}
use Rattle.ans_model.specs.Sequence.Reads.{Reads}
use Rattle.ans_tokens.specs.ScannerView.{ScannerView, Holds}

-- The bytes are a front that is read as tokens, and then an open part that the scanner holds. It has taken them all,
-- and refused none.
pub record ReadSoFar (bytes : List ℕ) (scanner : ScannerView) : Type 0 where
  pub front : List ℕ
  pub open_part : List ℕ
  pub whole : bytes ≡ front ++ open_part
  pub tokens : List TokenKind
  pub reads : Reads front tokens
  pub holds : Holds scanner open_part
  pub offset : scanner.offset ≡ length bytes
  pub unrefused : scanner.fault ≡ None
