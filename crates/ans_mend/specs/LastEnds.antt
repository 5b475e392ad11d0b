-- What prints nothing at the very end of a content and is taken out: line ends, bytes 00h and sequences.
use Rattle.std.specs.Prelude.{◌≡◌, ◌⊎◌, ℕ, zero, suc, ◌+◌, ◌-◌, ◌<◌, ◌≤◌, Bool, true, false, ◌&&◌, ◌||◌, ◌==◌, List, [], ◌∷◌}
use Rattle.std.specs.Prelude.{length, take, drop, not, Option, None, Some, IsTrue, MatchBool, slice_index}
use Rattle.std.specs.Prelude.{if◌then◌else◌}
use Rattle.std.specs.Int.{is_in_range}
use Rattle.std.specs.List.{list_all}
use Rattle.ans_model.specs.Bytes.{bracket, escape}
use Rattle.ans_model.specs.File.Refusals.{has_record}
use Rattle.ans_model.specs.Screen.State.{Size}
use Rattle.ans_model.specs.Screen.StartClass.{all_known}
use Rattle.ans_model.specs.Verdict.Good.{IsGood}
use Rattle.ans_pens.specs.declared.times.Times.{Times}
use Rattle.ans_sauce.specs.Contents.{content_in, with_content}

-- a line feed, a return, or a byte 00h, with which a block may be filled up
abbrev pub is_line_end : ℕ → Bool
is_line_end b = b == 0x0A || b == 0x0D || b == 0x00

-- a return is before the offset, and its line feed after it
abbrev pub splits_line_end : List ℕ → ℕ → Bool
splits_line_end bytes at = slice_index bytes (at - 1) == 0x0D && slice_index bytes at == 0x0A

-- This many of the first bytes stay. What goes is line feeds, returns and bytes 00h, and no return stays if its line
-- feed goes.
pub record LeavesOutEnds (bytes : List ℕ) (count : ℕ) : Type 0 where
  pub within : count ≤ length bytes
  pub ends : IsTrue (list_all is_line_end (drop count bytes))
  pub whole : splits_line_end bytes count ≡ false

-- ---- sequences at the end

-- the letter of a place, a mode or colours, or of what saves or restores the cursor
abbrev pub is_quiet_letter : ℕ → Bool
is_quiet_letter b =
    b == 0x48 || b == 0x66 || b == 0x68 || b == 0x6C || b == 0x6D || b == 0x73 || b == 0x75

-- a digit, or what separates or marks numbers
abbrev pub is_parameter : ℕ → Bool
is_parameter b = is_in_range 0x30 0x3F b

-- A sequence begins here and ends with the letter at that offset: ESC, `[`, parameters, and such a letter.
pub record IsQuietSequence (bytes : List ℕ) (start letter : ℕ) : Type 0 where
  pub order : start + 2 ≤ letter
  pub opens : slice_index bytes start ≡ escape
  pub goes_on : slice_index bytes (start + 1) ≡ bracket
  pub parameters : (at : ℕ) → start + 2 ≤ at → at < letter → is_parameter (slice_index bytes at) ≡ true
  pub ends : is_quiet_letter (slice_index bytes letter) ≡ true

-- The last sequence begins here. At most line ends and bytes 00h follow it.
pub record EndsInSequence (bytes : List ℕ) (start : ℕ) : Type 0 where
  pub letter : ℕ
  pub within : letter < length bytes
  pub sequence : IsQuietSequence bytes start letter
  pub ends : IsTrue (list_all is_line_end (drop (letter + 1) bytes))

-- This many of the first bytes stay, and what goes has at most this number of sequences.
abbrev pub LeavesOut : ℕ → List ℕ → ℕ → Type 0
LeavesOut zero bytes count = LeavesOutEnds bytes count
LeavesOut (suc more) bytes count =
    LeavesOutEnds bytes count
    ⊎ ((start : ℕ) × EndsInSequence bytes start × LeavesOut more (take start bytes) count)

-- how many sequences may go
abbrev pub most_sequences : ℕ
most_sequences = 8

-- ---- what is left

-- they pass from the cleared start
abbrev pub FrontPasses : Size → List ℕ → ℕ → Type 0
FrontPasses z bytes count = IsGood z all_known (take count bytes)

-- As few of these go, with at most this number of sequences, as must for what is left to pass from the cleared start.
pub record LeavesMost (sequences : ℕ) (z : Size) (bytes : List ℕ) (count : ℕ) : Type 0 where
  pub leaves : LeavesOut sequences bytes count
  pub passes : FrontPasses z bytes count
  pub most : (more : ℕ) → count < more → LeavesOut sequences bytes more → ¬ FrontPasses z bytes more

-- It does not pass, however many of them go.
abbrev pub NeverPasses : ℕ → Size → List ℕ → Type 0
NeverPasses sequences z bytes = (count : ℕ) → LeavesOut sequences bytes count → ¬ FrontPasses z bytes count

-- A line end, a byte 00h or a sequence begins with the byte, after the last one: a return and its line feed are one
-- line end.
abbrev pub begins_end : ℕ → ℕ → Bool
begins_end last b = (is_line_end b || b == escape) && not (last == 0x0D && b == 0x0A)

-- how many line ends, bytes 00h and bytes ESC there are: in what LeavesOut takes, each ESC begins one sequence
abbrev pub ends_after : ℕ → List ℕ → ℕ
ends_after last [] = 0
ends_after last (b ∷ bytes) = (if begins_end last b then 1 else 0) + ends_after b bytes

abbrev pub line_ends : List ℕ → ℕ
line_ends bytes = ends_after 0 bytes

-- this many, from this offset on
abbrev pub times_at : ℕ → ℕ → Option Times
times_at count first = if count == 0 then None else Some (record { count = count; first = first })

-- as few as must go are taken out of a content, so often
pub record TakesLastEnds (z : Size) (content left : List ℕ) (times : Option Times) : Type 0 where
  pub count : ℕ
  pub leaves : LeavesMost most_sequences z content count
  pub left_is : left ≡ take count content
  pub times_are : times ≡ times_at (line_ends (drop count content)) count

-- they are, where the content then passes from the cleared start on a screen of this size; and else none is
abbrev pub AreLastEndsOut : Size → List ℕ → List ℕ → Option Times → Type 0
AreLastEndsOut z content left times =
    TakesLastEnds z content left times ⊎ (NeverPasses most_sequences z content × (left ≡ content) × (times ≡ None))

-- the same of the content of a file that has a record
abbrev pub HasFewerEnds : Size → List ℕ → List ℕ → Option Times → Type 0
HasFewerEnds z file new times = MatchBool (has_record file)
    ((left : List ℕ) × AreLastEndsOut z (content_in file) left times × (new ≡ with_content left file))
    ((new ≡ file) × (times ≡ None))
