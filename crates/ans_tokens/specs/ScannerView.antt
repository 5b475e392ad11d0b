-- A scanner, as contracts see it.
use Rattle.std.specs.Prelude.{◌≡◌, ℕ, ◌+◌, Bool, List, [], ◌∷◌, ◌++◌, map, length, Option, None, Result, MatchResult}
use Rattle.std.specs.List.{list_any}
use Rattle.ans_model.specs.declared.fault.Fault.{Fault}
use Rattle.ans_model.specs.declared.fault.Cause.TheVariants.{EndInSequence}
use Rattle.ans_model.specs.Bytes.{escape}
use Rattle.ans_model.specs.Sequence.Spelling.{IsUnfinished}
use Rattle.ans_model.specs.declared.mark.Mark.{Mark}
use Rattle.ans_model.specs.Sequence.Meaning.{colour_number, is_quoted}
use Rattle.ans_model.specs.Sequence.Reads.{SpellsToken}
use Rattle.ans_model.specs.Verdict.FirstFault.{IsRefused}
use Rattle.ans_model.specs.Inside.ShownKind.{shown_kind}
use Rattle.ans_model.specs.Inside.OpenPart as parts
use Rattle.ans_model.specs.Inside.OpenPart.{Part, SpellsPart}
use Rattle.ans_tokens.specs.Token.{kind_of, start_of, length_of}
use Rattle.ans_tokens.specs.declared.token.Token.{Token}

-- What is kept of the current member: that there is nothing of it yet, the number that its digits make, the quote that
-- ends its string, or that its string has ended.
pub data KeptMember : Type 0 where
  Fresh : KeptMember
  InNumber : (value : ℕ) → KeptMember
  InString : (quote : ℕ) → KeptMember
  AfterString : KeptMember

-- What is kept of the open part: nothing, that it is ESC, or of a sequence its mark, a number for each member that is
-- done, whether a string was among them, and what there is of the current member.
pub data Kept : Type 0 where
  Nothing : Kept
  Escape : Kept
  Sequence : (mark : Mark) (numbers : List ℕ) (quoted : Bool) (current : KeptMember) → Kept

-- this is kept of the current member: all but the text of a string
abbrev pub KeepsCurrent : KeptMember → parts.Current → Type 0
KeepsCurrent Fresh c = c ≡ parts.Fresh
KeepsCurrent (InNumber n) c = c ≡ parts.InNumber n
KeepsCurrent (InString quote) c = (text : List ℕ) × (c ≡ parts.InString quote text)
KeepsCurrent AfterString c = (quote : ℕ) × (text : List ℕ) × (c ≡ parts.AfterString quote text)

-- what is kept of a part of a sequence
pub record KeepsPart (mark : Mark) (numbers : List ℕ) (quoted : Bool) (current : KeptMember)
    (part : Part) : Type 0 where
  pub mark_is : part.mark ≡ mark
  pub numbers_are : map colour_number part.done ≡ numbers
  pub quoted_is : list_any is_quoted part.done ≡ quoted
  pub current_is : KeepsCurrent current part.current

-- this is kept of the open part
abbrev pub Keeps : Kept → List ℕ → Type 0
Keeps Nothing open_part = open_part ≡ []
Keeps Escape open_part = open_part ≡ escape ∷ []
Keeps (Sequence mark numbers quoted current) open_part =
    (part : Part) × KeepsPart mark numbers quoted current part × SpellsPart part open_part

-- how many bytes it has taken without a fault, where the open part began, what it keeps of that, and the fault, once
-- there is one
pub record ScannerView : Type 0 where
  pub offset : ℕ
  pub open_offset : ℕ
  pub kept : Kept
  pub fault : Option Fault

abbrev pub scanner_view : ℕ → ℕ → Kept → Option Fault → ScannerView
scanner_view offset open_offset kept fault =
    record { offset = offset; open_offset = open_offset; kept = kept; fault = fault }

-- before the first byte
abbrev pub new_scanner : ScannerView
new_scanner = scanner_view 0 0 Nothing None

-- these bytes are the open part, which ends at the offset
pub record Holds (s : ScannerView) (open_part : List ℕ) : Type 0 where
  pub keeps : Keeps s.kept open_part
  pub begun_at : s.open_offset + length open_part ≡ s.offset

-- the open part and the byte spell the token
pub record IsTokenOf (token : Token) (offset : ℕ) (open_part : List ℕ) (byte : ℕ) : Type 0 where
  pub spelled : SpellsToken (shown_kind (kind_of token)) (open_part ++ byte ∷ [])
  pub starts : start_of token + length open_part ≡ offset
  pub long : length_of token ≡ length open_part + 1

-- the reading refuses the open part and the byte
pub record IsFaultOf (fault : Fault) (offset : ℕ) (open_part : List ℕ) (byte : ℕ) : Type 0 where
  pub refused : IsRefused (open_part ++ byte ∷ []) fault.cause
  pub starts : fault.offset + length open_part ≡ offset

-- the open part and the byte are unfinished, and are the new open part
abbrev pub StaysUnfinished : ScannerView → ScannerView → ℕ → Type 0
StaysUnfinished old new byte = (open_part : List ℕ) → Holds old open_part →
    IsUnfinished (open_part ++ byte ∷ []) × Holds new (open_part ++ byte ∷ [])

-- the open part and the byte spell the token, and nothing is open
abbrev pub EndsToken : ScannerView → ScannerView → ℕ → Token → Type 0
EndsToken old new byte token = (open_part : List ℕ) → Holds old open_part →
    IsTokenOf token old.offset open_part byte × Holds new []

-- the token starts where the last one ended, and ends at the new offset, where nothing is open
pub record StartsAfterLast (old new : ScannerView) (token : Token) : Type 0 where
  pub starts : start_of token ≡ old.open_offset
  pub long : start_of token + length_of token ≡ new.offset
  pub nothing_open : new.open_offset ≡ new.offset

-- the reading refuses the open part and the byte
abbrev pub RefusesByte : ScannerView → ℕ → Fault → Type 0
RefusesByte old byte fault = (open_part : List ℕ) → Holds old open_part → IsFaultOf fault old.offset open_part byte

-- at the end the open part is empty, or the file ends in a sequence
abbrev pub Ends : ScannerView → Result (Unit {0}) Fault → Type 0
Ends s result = (open_part : List ℕ) → Holds s open_part → MatchResult result (λ _. open_part ≡ [])
    (λ fault. IsUnfinished open_part × (fault.cause ≡ EndInSequence) × (fault.offset + length open_part ≡ s.offset))
