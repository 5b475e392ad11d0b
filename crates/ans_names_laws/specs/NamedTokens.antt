-- The tokens that a content has with its colours named.
use Rattle.std.specs.Prelude.{ℕ, List, [], ◌∷◌, ◌++◌, take, drop, if◌then◌else◌}
use Rattle.ans_model.specs.Sequence.TokenKind.{TokenKind, Colours}
use Rattle.ans_players.specs.Names.{Names, are_both}
use Rattle.ans_players.specs.Situations.{Spelled}
use Rattle.ans_mend.specs.NamedColours.{after_zero, missing_numbers, named_text, names_behind_token, numbers_to_zero}
use Rattle.ans_mend.specs.NamedColours.{opening, to_zero, way_of}
use Rattle.ans_mend.specs.declared.naming.Way.{Way}
use Rattle.ans_mend.specs.declared.naming.Way.TheVariants.{Within, After, Between}

-- the numbers of a colour sequence
abbrev pub colour_numbers : TokenKind → List ℕ
colour_numbers (Colours parameters) = parameters
colour_numbers t = []

-- those up to and with its last 0
abbrev pub numbers_through_zero : TokenKind → List ℕ
numbers_through_zero t = take (numbers_to_zero t) (colour_numbers t)

-- and those after it
abbrev pub numbers_after_zero : TokenKind → List ℕ
numbers_after_zero t = drop (numbers_to_zero t) (colour_numbers t)

-- the numbers that name what is not named
abbrev pub naming_numbers : Names → List ℕ
naming_numbers n =
    if n.foreground then (if n.background then [] else 40 ∷ [])
    else if n.background then 37 ∷ [] else 37 ∷ 40 ∷ []

-- a colour sequence of these numbers, with this text
abbrev pub colours_of : List ℕ → List ℕ → Spelled
colours_of numbers text = record { token = Colours numbers; text = text }

-- one that only names what is not named
abbrev pub naming_sequence : Names → Spelled
naming_sequence n = colours_of (naming_numbers n) (opening ++ (missing_numbers n ++ 0x6D ∷ []))

-- A sequence with the names after its last 0: one with their numbers in it, or two, or three.
abbrev pub parts_by : Way → Names → Spelled → List Spelled
parts_by Within n x =
    colours_of (numbers_through_zero x.token ++ (naming_numbers n ++ numbers_after_zero x.token))
    (named_text (missing_numbers n) (to_zero x) (after_zero x)) ∷ []
parts_by After n x = x ∷ naming_sequence n ∷ []
parts_by Between n x =
    colours_of (numbers_through_zero x.token) (to_zero x ++ 0x6D ∷ [])
    ∷ naming_sequence n
    ∷ colours_of (numbers_after_zero x.token) (opening ++ drop 1 (after_zero x))
    ∷ []

-- a token with the names that are missing where something is printed next
abbrev pub named_parts : Names → Spelled → List Spelled
named_parts n x =
    if are_both n then x ∷ []
    else parts_by (way_of (missing_numbers n) (to_zero x) (after_zero x)) n x

-- these tokens, where each sequence that takes the names away gets those that are missing
abbrev pub named_tokens : List Spelled → List Spelled
named_tokens [] = []
named_tokens (x ∷ xs) = named_parts (names_behind_token x xs) x ++ named_tokens xs
