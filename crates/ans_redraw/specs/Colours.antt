-- How one attribute becomes another: by one sequence of colours.
use Rattle.std.specs.Prelude.{ℕ, ◌+◌, ◌/◌, ◌%◌, Bool, not, ◌&&◌, ◌||◌, ◌==◌, List, [], ◌∷◌, ◌++◌, map}
use Rattle.std.specs.Prelude.{codes, decimal, slice_index, if◌then◌else◌}
use Rattle.std.specs.List.{join_with_byte}
use Rattle.ans_model.specs.Bytes.{escape, bracket, semicolon}
use Rattle.ans_model.specs.Sequence.TokenKind.{Colours}
use Rattle.ans_players.specs.Situations.{Spelled}

-- bits 0 to 2
abbrev pub foreground_of : ℕ → ℕ
foreground_of attribute = attribute % 8

-- bit 3
abbrev pub is_bright : ℕ → Bool
is_bright attribute = attribute / 8 % 2 == 1

-- bits 4 to 6
abbrev pub background_of : ℕ → ℕ
background_of attribute = attribute / 16 % 8

-- bit 7
abbrev pub blinks : ℕ → Bool
blinks attribute = attribute / 128 % 2 == 1

-- Where ANSI.SYS has the eight colours, whose bits are blue, green and red: it counts black, red, green, brown, blue,
-- magenta, cyan, white.
abbrev pub ansi_number : ℕ → ℕ
ansi_number colour = slice_index (0 ∷ 4 ∷ 2 ∷ 6 ∷ 1 ∷ 5 ∷ 3 ∷ 7 ∷ []) colour

-- the number, where the test holds
abbrev pub parameter_if : Bool → ℕ → List ℕ
parameter_if test number = if test then number ∷ [] else []

-- The numbers of what changes: bright or blink that comes, the foreground, the background.
abbrev pub changes : ℕ → ℕ → List ℕ
changes from to =
    parameter_if (not (is_bright from) && is_bright to) 1
    ++ (parameter_if (not (blinks from) && blinks to) 5
    ++ (parameter_if (not (foreground_of from == foreground_of to)) (30 + ansi_number (foreground_of to))
    ++ parameter_if (not (background_of from == background_of to)) (40 + ansi_number (background_of to))))

-- neither bright nor blink goes
abbrev pub only_adds : ℕ → ℕ → Bool
only_adds from to = (not (is_bright from) || is_bright to) && (not (blinks from) || blinks to)

-- 0, then 1 and 5 if they are set, the foreground and the background. Both colours are named, since after a 0 a player
-- may have a white and a black of its own.
abbrev pub anew : ℕ → List ℕ
anew to =
    0 ∷ (parameter_if (is_bright to) 1
    ++ (parameter_if (blinks to) 5
    ++ (30 + ansi_number (foreground_of to)) ∷ (40 + ansi_number (background_of to)) ∷ []))

-- the sequence of these numbers
abbrev pub colour_sequence : List ℕ → List ℕ
colour_sequence numbers = escape ∷ bracket ∷ (join_with_byte semicolon (map decimal numbers) ++ codes "m")

-- only what changes, if neither bright nor blink goes; otherwise all of it, after a 0
abbrev pub numbers_to : ℕ → ℕ → List ℕ
numbers_to from to = if only_adds from to then changes from to else anew to

-- the colours of these numbers, as they are spelled
abbrev pub colour_token : List ℕ → Spelled
colour_token numbers = record { token = Colours numbers; text = colour_sequence numbers }

-- from one attribute to another: nothing if they are the same
abbrev pub colours_to : ℕ → ℕ → List Spelled
colours_to from to = if from == to then [] else colour_token (numbers_to from to) ∷ []
