-- What a sequence means: a token, or why it is refused. The letters and the defaults are ANSI.SYS's; which
-- parameters are refused is the profile's.
use Rattle.std.specs.Prelude.{ℕ, Bool, true, false, not, ◌||◌, ◌&&◌, ◌==◌, List, [], ◌∷◌, map, codes, Result, Ok, Err}
use Rattle.std.specs.Prelude.{if◌then◌else◌}
use Rattle.std.specs.List.{list_any}
use Rattle.ans_model.specs.Sequence.Spelling.{Member, Number, Quoted, Raw}
use Rattle.ans_model.specs.declared.mark.Mark.{Mark}
use Rattle.ans_model.specs.declared.mark.Mark.TheVariants.{Unmarked}
use Rattle.ans_model.specs.Sequence.TokenKind.{TokenKind, Up, Down, Forward, Backward, Place, Clear, EraseLine, Save}
use Rattle.ans_model.specs.Sequence.TokenKind.{Restore, Colours, Wrap, Mode, Keys, Ask}
use Rattle.ans_model.specs.declared.fault.Cause.{Cause}
use Rattle.ans_model.specs.declared.fault.Cause.TheVariants.{UnknownSequence, WrongParameters}

-- there is a mark
abbrev pub is_marked : Mark → Bool
is_marked Unmarked = false
is_marked _ = true

-- the member is a string
abbrev pub is_quoted : Member → Bool
is_quoted (Quoted quote text) = true
is_quoted _ = false

-- a number to move by or to place at: an omitted member and 0 count as 1
abbrev pub distance : Member → ℕ
distance (Number n) = if n == 0 then 1 else n
distance _ = 1

-- a number of a colour: an omitted member counts as 0
abbrev pub colour_number : Member → ℕ
colour_number (Number n) = n
colour_number _ = 0

-- the member is this number
abbrev pub is_number : ℕ → Member → Bool
is_number n (Number k) = k == n
is_number n _ = false

-- exactly one member, that number
abbrev pub is_just : ℕ → List Member → Bool
is_just n (m ∷ []) = is_number n m
is_just n _ = false

-- there are no members
abbrev pub is_empty : List Member → Bool
is_empty [] = true
is_empty _ = false

-- a move takes at most one member
abbrev pub move : (ℕ → TokenKind) → List Member → Result TokenKind Cause
move by [] = Ok (by 1)
move by (m ∷ []) = Ok (by (distance m))
move by _ = Err WrongParameters

-- a place takes at most two
abbrev pub place : List Member → Result TokenKind Cause
place [] = Ok (Place 1 1)
place (row ∷ []) = Ok (Place (distance row) 1)
place (row ∷ column ∷ []) = Ok (Place (distance row) (distance column))
place _ = Err WrongParameters

-- the empty list is the list of one 0
abbrev pub colours : List Member → TokenKind
colours [] = Colours (0 ∷ [])
colours (m ∷ ms) = Colours (map colour_number (m ∷ ms))

-- the token where the parameters are those that it takes
abbrev pub only_if : Bool → TokenKind → Result TokenKind Cause
only_if test token = if test then Ok token else Err WrongParameters

-- a marked 7 by itself is wrap; anything else is a screen mode
abbrev pub wrap_or_mode : Raw → Bool → TokenKind
wrap_or_mode raw on = if is_marked raw.mark && is_just 7 raw.members then Wrap on else Mode

-- letters, and what a sequence with one of them means
pub record Entry : Type 0 where
  pub letters : List ℕ
  pub means : Result TokenKind Cause

-- an entry of the table
abbrev pub entry : List ℕ → Result TokenKind Cause → Entry
entry letters means = record { letters = letters; means = means }

-- what each letter means; its members are counted and tested here
abbrev pub table : Raw → List Entry
table raw =
    entry (codes "A") (move Up raw.members)
    ∷ entry (codes "B") (move Down raw.members)
    ∷ entry (codes "C") (move Forward raw.members)
    ∷ entry (codes "D") (move Backward raw.members)
    ∷ entry (codes "Hf") (place raw.members)
    ∷ entry (codes "J") (only_if (is_just 2 raw.members) Clear)
    ∷ entry (codes "K") (only_if (is_empty raw.members || is_just 0 raw.members) EraseLine)
    ∷ entry (codes "s") (only_if (is_empty raw.members) Save)
    ∷ entry (codes "u") (only_if (is_empty raw.members) Restore)
    ∷ entry (codes "m") (Ok (colours raw.members))
    ∷ entry (codes "h") (Ok (wrap_or_mode raw true))
    ∷ entry (codes "l") (Ok (wrap_or_mode raw false))
    ∷ entry (codes "p") (Ok Keys)
    ∷ entry (codes "n") (only_if (is_just 6 raw.members) Ask)
    ∷ []

-- the letter is one of these
abbrev pub is_one_of : List ℕ → ℕ → Bool
is_one_of letters letter = list_any (λ l. letter == l) letters

-- the entry of a letter; a letter without one has no meaning
abbrev pub look_up : List Entry → ℕ → Result TokenKind Cause
look_up [] letter = Err UnknownSequence
look_up (e ∷ es) letter = if is_one_of e.letters letter then e.means else look_up es letter

-- the table has an entry for the letter
abbrev pub has_a_meaning : Raw → Bool
has_a_meaning raw = list_any (λ e. is_one_of e.letters raw.letter) (table raw)

-- Only `h` and `l` may have a mark, and only `p` may have a string.
abbrev pub meaning : Raw → Result TokenKind Cause
meaning raw =
    if not (has_a_meaning raw) then Err UnknownSequence
    else if is_marked raw.mark && not (is_one_of (codes "hl") raw.letter) then Err UnknownSequence
    else if list_any is_quoted raw.members && not (is_one_of (codes "p") raw.letter) then Err WrongParameters
    else look_up (table raw) raw.letter
