-- What mending takes of the room in a draft, and when there may be none for its screen.
use Rattle.std.specs.Prelude.{ℕ, ◌+◌, ◌-◌, ◌*◌, ◌<◌, min, List, length, if◌then◌else◌}
use Rattle.ans_model.specs.Bytes.{longest_file}
use Rattle.ans_model.specs.File.Layout.{FileParts}
use Rattle.ans_model.specs.File.Record.{stated_size}
use Rattle.ans_model.specs.File.Refusals.{Accepts}
use Rattle.ans_model.specs.Screen.State.{Size}
use Rattle.ans_mend.specs.Drafts.{DraftView}
use Rattle.ans_mend.specs.LineEnds.{line_feeds}
use Rattle.ans_mend.specs.Tail.{IsTailCut}
use Rattle.ans_sauce.specs.Found.{front_in}
use Rattle.ans_model.specs.declared.mends.Mends.{Mends}
use Rattle.ans_mend.specs.Mending.{HasSettled, asked_for, recorded}

-- how many returns are put at most, where they are asked for: one before each line feed
abbrev pub most_returns : Mends → List ℕ → ℕ
most_returns mends bytes = if mends.crlf then line_feeds bytes else 0

-- how many bytes names of colours are at most, if they are asked for, in a file of `long` bytes, `front` of them before
-- its record: eight for each of these, and no more than make the file the longest
abbrev pub most_names : Mends → ℕ → ℕ → ℕ
most_names mends long front = if mends.name_colours then min (longest_file - long) (8 * front) else 0

-- how many bytes are put into the content of a file that has its record, at most: returns and names
abbrev pub most_added : Mends → List ℕ → ℕ
most_added mends file =
    most_returns mends (front_in file) + most_names mends (length file) (length (front_in file))

-- how many bytes are put into a file at most: returns, names, an end mark and a record, and an end mark after the
-- content
abbrev pub most_put : Mends → List ℕ → ℕ
most_put mends file = most_returns mends file + most_names mends (length file) (length file + 1) + 130

-- the draft has no room for that many
abbrev pub LacksRoom : Mends → DraftView → Type 0
LacksRoom mends draft = draft.room < most_put mends draft.file

-- the file is accepted, and there is no screen of the size that its record states; `lacks` says of which sizes there is
-- none
abbrev pub LacksScreenFor : (Size → Type 0) → List ℕ → Type 0
LacksScreenFor lacks file = (apart : FileParts) × Accepts file apart × lacks (stated_size apart.record_bytes)

-- so it is with the file when all is done that was asked for
abbrev pub LacksScreenInTheEnd : (Size → Type 0) → Mends → List ℕ → Type 0
LacksScreenInTheEnd lacks mends file = (cut : List ℕ) × IsTailCut file cut
    × HasSettled (asked_for mends cut) (recorded mends cut) (LacksScreenFor lacks)
