-- What is seen of a picture that is shown.
use Rattle.std.specs.Prelude.{ℕ, ◌+◌, ◌*◌, Bool, false, List, [], ◌∷◌, ◌++◌, ◌==◌, map, flat_map, if◌then◌else◌}
use Rattle.ans_model.specs.declared.cell.Cell.{Cell}
use Rattle.ans_model.specs.Verdict.Good.{Picture}
use Rattle.ans_model.specs.Text.Characters.{glyph_text}
use Rattle.ans_model.specs.Text.ReportText.{rows_of}
use Rattle.ans_show.specs.Looks.{Look, look_of}

-- white on black
abbrev pub white_on_black : Look
white_on_black = record { foreground = 7; background = 0; blinks = false }

-- the attribute that looks so
abbrev pub attribute_of : Look → ℕ
attribute_of l = l.foreground + 16 * l.background + (if l.blinks then 128 else 0)

-- a character that looks so, or the end of a line
pub data Seen : Type 0 where
  SeenCell : (how : Look) (character : ℕ) → Seen
  SeenEnd : Seen

-- a character of a text that is no sequence and no tag
abbrev pub seen_of : Look → ℕ → Seen
seen_of how character = if character == 0x0A then SeenEnd else SeenCell how character

-- each cell of a row looks as its attribute says and has its byte's character, and then the line ends
abbrev pub seen_row : Bool → List Cell → List Seen
seen_row non_blink row =
    map (λ c. SeenCell (look_of non_blink c.attribute) (glyph_text c.byte)) row ++ SeenEnd ∷ []

-- the picture, line by line
abbrev pub seen_picture : Bool → Picture → List Seen
seen_picture non_blink picture = flat_map (seen_row non_blink) (rows_of picture)
