-- The parts of an unfinished sequence: what a front of a spelling consists of.
use Rattle.std.specs.Prelude.{◌≡◌, ℕ, ◌≤◌, ◌<◌, Bool, true, not, ◌||◌, IsTrue, ◌==◌, List, [], ◌∷◌, ◌++◌, length, ⊤}
use Rattle.std.specs.List.{AllByRecursion, list_all}
use Rattle.std.specs.Char.{is_ascii_digit, is_ascii_alphabetic}
use Rattle.ans_model.specs.Bytes.{escape, bracket, semicolon, largest_number, most_parameters}
use Rattle.ans_model.specs.Sequence.Spelling.{mark_bytes, Member, Omitted, Number, Quoted, is_quote}
use Rattle.ans_model.specs.declared.mark.Mark.{Mark}
use Rattle.ans_model.specs.Sequence.Spelling.{SpellsMember, IsInLimit, Raw}

-- the member that is being read: none yet, digits, a string that is not closed, a closed one
pub data Current : Type 0 where
  Fresh : Current
  InNumber : (value : ℕ) → Current
  InString : (quote : ℕ) (text : List ℕ) → Current
  AfterString : (quote : ℕ) (text : List ℕ) → Current

-- the bytes are what there is of the member
abbrev pub SpellsCurrent : Current → List ℕ → Type 0
SpellsCurrent Fresh bytes = bytes ≡ []
SpellsCurrent (InNumber n) bytes = SpellsMember (Number n) bytes
SpellsCurrent (InString quote text) bytes = IsTrue (is_quote quote) × IsTrue (list_all (λ b. not (b == quote)) text)
    × (bytes ≡ quote ∷ text)
SpellsCurrent (AfterString quote text) bytes = SpellsMember (Quoted quote text) bytes

-- its number, if it is one, is within the limit
abbrev pub IsCurrentInLimit : Current → Type 0
IsCurrentInLimit (InNumber n) = n ≤ largest_number
IsCurrentInLimit _ = ⊤

-- the members, each with the `;` after it
abbrev pub SpellsDone : List Member → List ℕ → Type 0
SpellsDone [] bytes = bytes ≡ []
SpellsDone (m ∷ ms) bytes = (text more : List ℕ) × SpellsMember m text × SpellsDone ms more
    × (bytes ≡ text ++ semicolon ∷ more)

-- an unfinished sequence: its mark, the members that a `;` has ended, and the member that is being read
pub record Part : Type 0 where
  pub mark : Mark
  pub done : List Member
  pub current : Current

-- ESC, `[`, the mark, the members that are done, and what there is of the next
pub record LoosePart (part : Part) (bytes : List ℕ) : Type 0 where
  pub front : List ℕ
  pub last : List ℕ
  pub done : SpellsDone part.done front
  pub current : SpellsCurrent part.current last
  pub whole : bytes ≡ escape ∷ bracket ∷ (mark_bytes part.mark ++ (front ++ last))

-- also each number is within the limit, and there is room for the next member
pub record SpellsPart (part : Part) (bytes : List ℕ) : Type 0 where
  pub loose : LoosePart part bytes
  pub numbers : AllByRecursion IsInLimit part.done
  pub last_number : IsCurrentInLimit part.current
  pub room : length part.done < most_parameters

-- the member that what there is makes, and the bytes that it lacks
abbrev pub member_of : Current → Member
member_of Fresh = Omitted
member_of (InNumber n) = Number n
member_of (InString quote text) = Quoted quote text
member_of (AfterString quote text) = Quoted quote text

-- the quote that an open string lacks
abbrev pub lacks : Current → List ℕ
lacks (InString quote text) = quote ∷ []
lacks _ = []

-- the members, where a letter comes next
abbrev pub members_of : List Member → Current → List Member
members_of [] Fresh = []
members_of done current = done ++ member_of current ∷ []

-- the sequence, where this letter comes next
abbrev pub raw_of : Part → ℕ → Raw
raw_of part letter = record { mark = part.mark; members = members_of part.done part.current; letter = letter }

-- what may follow a whole member: `;` or a letter
abbrev pub is_stop : ℕ → Bool
is_stop c = c == semicolon || is_ascii_alphabetic c

-- the byte may follow what there is of the member
abbrev pub may_follow : Current → ℕ → Bool
may_follow Fresh b = is_stop b || (is_ascii_digit b || is_quote b)
may_follow (InNumber n) b = is_stop b || is_ascii_digit b
may_follow (InString quote text) b = true
may_follow (AfterString quote text) b = is_stop b
