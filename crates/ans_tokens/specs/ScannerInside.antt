-- What a scanner's fields show.
use Rattle.std.specs.Prelude.{◌≡◌, ◌≢◌, ℕ, ◌≤◌, List, IfSome}
use Rattle.ans_tokens.specs.KeptMember.{kept_member}
use Rattle.ans_tokens.specs.ScannerView.{Kept, Nothing, Escape, Sequence, Keeps, ScannerView, scanner_view}
use Rattle.ans_tokens.specs.declared.scanner.Open.{Open}
use Rattle.ans_tokens.specs.declared.scanner.Open.TheVariants as open_part
use Rattle.ans_tokens.specs.declared.scanner.Scanner.TheInside.{Inside}

-- what is kept of the open part
abbrev pub kept_of : Open → Kept
kept_of open_part.Nothing = Nothing
kept_of open_part.Escape = Escape
kept_of (open_part.Sequence held) =
    Sequence held.mark held.done.items held.quoted (kept_member held.current)

-- this is the state of the open part
abbrev pub HoldsOpen : Open → List ℕ → Type 0
HoldsOpen held open_part = Keeps (kept_of held) open_part

-- there are bytes since the last token
abbrev pub IsBegun : Open → Type 0
IsBegun held = kept_of held ≢ Nothing

-- the scanner as contracts see it
abbrev pub shown_scanner : Inside → ScannerView
shown_scanner s = scanner_view s.offset s.open_offset (kept_of s.open_part) s.fault

-- the open part begins, and the fault is, within the bytes that it has taken; if nothing is kept, there is no byte
-- since the last token
pub record IsWithin (s : ScannerView) : Type 0 where
  pub open_part : s.open_offset ≤ s.offset
  pub empty : s.kept ≡ Nothing → s.open_offset ≡ s.offset
  pub fault : IfSome s.fault (λ fault. fault.offset ≤ s.offset)
