-- Which of the current colours a drawing has named. The others are a player's own white and black, which are not those
-- that 37 and 40 set.
use Rattle.std.specs.Prelude.{ℕ, Bool, true, false, ◌&&◌, ◌==◌, nat_le, fold, if◌then◌else◌}
use Rattle.ans_model.specs.Sequence.TokenKind.{TokenKind, Glyph, Tab, Clear, EraseLine, Colours}

-- one of the numbers from `first` to `last`
abbrev pub is_within : ℕ → ℕ → ℕ → Bool
is_within first last n = nat_le first n && nat_le n last

-- whether the foreground, and whether the background, is named
pub record Names : Type 0 where
  pub foreground : Bool
  pub background : Bool

-- neither is, as at a start
abbrev pub unnamed : Names
unnamed = record { foreground = false; background = false }

-- after a number: 30 to 37 name the foreground, 40 to 47 the background, 0 takes both names away, and others do nothing
abbrev pub names_behind : Names → ℕ → Names
names_behind n number =
    if number == 0 then unnamed
    else if is_within 30 37 number then record n { foreground = true }
    else if is_within 40 47 number then record n { background = true }
    else n

-- after a token: the numbers of a colour sequence count in their order, and an omitted one is 0
abbrev pub names_after : Names → TokenKind → Names
names_after n (Colours parameters) = fold names_behind n parameters
names_after n t = n

-- both are
abbrev pub are_both : Names → Bool
are_both n = n.foreground && n.background

-- the token prints, a blank too, or blanks cells
abbrev pub paints : TokenKind → Bool
paints (Glyph byte) = true
paints Tab = true
paints Clear = true
paints EraseLine = true
paints t = false
