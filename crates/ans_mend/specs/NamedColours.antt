-- Colour sequences that take both names away and name the colours again, where something is printed in them.
use Rattle.std.specs.Prelude.{◌≡◌, ◌⊎◌, ℕ, ◌+◌, ◌-◌, ◌*◌, ◌<◌, min, Bool, true, false, not, ◌&&◌, ◌||◌, ◌==◌, nat_le}
use Rattle.std.specs.Prelude.{List, []}
use Rattle.std.specs.Prelude.{◌∷◌, ◌++◌, length, drop, codes, if◌then◌else◌, Option, None, MatchBool}
use Rattle.std.specs.List.{list_any}
use Rattle.ans_model.specs.Bytes.{escape, bracket, longest_file, semicolon}
use Rattle.ans_model.specs.File.Refusals.{has_record}
use Rattle.ans_model.specs.Sequence.TokenKind.{TokenKind, Colours}
use Rattle.ans_model.specs.Sequence.Reads.{Reads}
use Rattle.ans_players.specs.Names.{Names, are_both, names_after, paints, unnamed}
use Rattle.ans_model.specs.Sequence.Omitted.{omits}
use Rattle.ans_players.specs.Situations.{Spelled, spelled}
use Rattle.ans_pens.specs.Counted.{counted}
use Rattle.ans_pens.specs.declared.times.Times.{Times}
use Rattle.ans_sauce.specs.Contents.{content_in, with_content}
use Rattle.ans_mend.specs.declared.naming.Way.{Way}
use Rattle.ans_mend.specs.declared.naming.Way.TheVariants.{Within, After, Between}

-- ---- which names are missing

-- both colours are named
abbrev pub both_named : Names
both_named = record { foreground = true; background = true }

abbrev pub is_zero : ℕ → Bool
is_zero n = n == 0

-- a colour sequence with a 0 or an omitted number, which takes both names away
abbrev pub takes_names : TokenKind → Bool
takes_names (Colours parameters) = list_any is_zero parameters
takes_names t = false

-- Which colours are named where something is printed or cleared next, if these are now; both, if that does not come
-- before the names are taken away again.
abbrev pub names_at_print : Names → List Spelled → Names
names_at_print n [] = both_named
names_at_print n (x ∷ xs) =
    if paints x.token then n
    else if takes_names x.token then both_named
    else names_at_print (names_after n x.token) xs

-- Something is printed or cleared while not both are named, before a sequence takes the names away.
abbrev pub begins_unnamed : List Spelled → Bool
begins_unnamed xs = not (are_both (names_at_print unnamed xs))

-- 37 for the foreground, 40 for the background, where they are not named
abbrev pub missing_numbers : Names → List ℕ
missing_numbers n =
    if n.foreground then (if n.background then [] else codes "40")
    else if n.background then codes "37" else codes "37;40"

-- ---- a sequence that gets them

-- how many numbers there are up to the last 0
abbrev pub count_to_zero : List ℕ → ℕ
count_to_zero [] = 0
count_to_zero (n ∷ ns) = if list_any is_zero (n ∷ ns) then count_to_zero ns + 1 else 0

-- `;` or `m`, which comes after each number
abbrev pub ends_number : ℕ → Bool
ends_number b = b == semicolon || b == 0x6D

-- the bytes of a sequence through this many of its numbers
abbrev pub through_numbers : ℕ → List ℕ → List ℕ
through_numbers count [] = []
through_numbers count (b ∷ bs) =
    if ends_number b then (if nat_le count 1 then [] else b ∷ through_numbers (count - 1) bs)
    else b ∷ through_numbers count bs

-- how many numbers a token has up to its last 0
abbrev pub numbers_to_zero : TokenKind → ℕ
numbers_to_zero (Colours parameters) = count_to_zero parameters
numbers_to_zero t = 0

-- the bytes of a sequence up to and with its last 0
abbrev pub to_zero : Spelled → List ℕ
to_zero x = through_numbers (numbers_to_zero x.token) x.text

-- and those after it
abbrev pub after_zero : Spelled → List ℕ
after_zero x = drop (length (to_zero x)) x.text

-- ESC and `[`
abbrev pub opening : List ℕ
opening = escape ∷ bracket ∷ []

-- the most bytes of a sequence that ansilove takes for one: 14 after ESC and `[`
abbrev pub longest_sequence : ℕ
longest_sequence = 16

-- The numbers go into the sequence, if that has no omitted number and is not too long then; else they are a sequence of
-- their own: after it, or between it and what is left of it.
abbrev pub way_of : List ℕ → List ℕ → List ℕ → Way
way_of names front rest =
    if not (omits (front ++ rest)) && nat_le (length front + 1 + length names + length rest) longest_sequence
    then Within
    else if nat_le (length rest) 1 then After
    else Between

-- what is put for these numbers after the last 0
abbrev pub put_by : Way → List ℕ → List ℕ
put_by Within names = semicolon ∷ names
put_by After names = 0x6D ∷ (opening ++ names)
put_by Between names = 0x6D ∷ (opening ++ (names ++ (0x6D ∷ opening)))

-- what comes after it then: a sequence that begins again begins with no `;`
abbrev pub left_by : Way → List ℕ → List ℕ
left_by Between rest = drop 1 rest
left_by _ rest = rest

-- a sequence with these numbers after its last 0
abbrev pub named_text : List ℕ → List ℕ → List ℕ → List ℕ
named_text names front rest =
    let way = way_of names front rest in front ++ (put_by way names ++ left_by way rest)

-- a sequence with what is missing where something is printed next; as it is, where nothing is
abbrev pub named_sequence : Names → Spelled → List ℕ
named_sequence n x =
    if are_both n then x.text else named_text (missing_numbers n) (to_zero x) (after_zero x)

-- ---- a content

-- the names that are there where something is printed next; a token that takes no names away gets none
abbrev pub names_behind_token : Spelled → List Spelled → Names
names_behind_token x xs =
    if takes_names x.token then names_at_print (names_after unnamed x.token) xs else both_named

-- the bytes of these tokens, where each sequence that takes the names away gets those that are missing
abbrev pub named_content : List Spelled → List ℕ
named_content [] = []
named_content (x ∷ xs) = named_sequence (names_behind_token x xs) x ++ named_content xs

-- the sequences that get names besides, by where they are, if the first token is at this offset
abbrev pub times_named : ℕ → Option Times → List Spelled → Option Times
times_named offset times [] = times
times_named offset times (x ∷ xs) =
    times_named (offset + length x.text) (counted times (not (are_both (names_behind_token x xs))) offset) xs

-- The colours of a content are named, so often.
pub record NamesColours (content left : List ℕ) (times : Option Times) : Type 0 where
  pub tokens : List TokenKind
  pub reads : Reads content tokens
  pub left_is : left ≡ named_content (spelled tokens reads.0)
  pub times_are : times ≡ times_named 0 None (spelled tokens reads.0)

-- They are, where the content can be read; and else it stays.
abbrev pub AreColoursNamed : List ℕ → List ℕ → Option Times → Type 0
AreColoursNamed content left times =
    NamesColours content left times
    ⊎ (((tokens : List TokenKind) → ¬ Reads content tokens) × (left ≡ content) × (times ≡ None))

-- the same of the content of a file that has a record
abbrev pub HasNamedColours : List ℕ → List ℕ → Option Times → Type 0
HasNamedColours file new times = MatchBool (has_record file)
    ((left : List ℕ) × AreColoursNamed (content_in file) left times × (new ≡ with_content left file))
    ((new ≡ file) × (times ≡ None))

-- how many bytes names add at most, if the file is then no longer than the longest
abbrev pub names_room : List ℕ → ℕ
names_room file = min (longest_file - length file) (4 * (length file - 128))

-- with its colours named the file is longer than this many bytes
abbrev pub IsTooLongNamed : List ℕ → ℕ → Type 0
IsTooLongNamed file most =
    (new : List ℕ) × (times : Option Times) × HasNamedColours file new times × (most < length new)
