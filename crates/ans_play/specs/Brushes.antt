-- A play whose cursor is at one position: that position and the attribute are kept beside it as a brush.
use Rattle.std.specs.Prelude.{◌≡◌, ◌==◌, ◌+◌, ◌*◌, ◌≤◌, ◌<◌, ℕ, List, [], ◌∷◌, true, false, length, take}
use Rattle.std.specs.Prelude.{if◌then◌else◌}
use Rattle.std.specs.Char.{is_ascii_alphabetic}
use Rattle.ans_model.specs.Bytes.{IsByte, most_parameters}
use Rattle.ans_model.specs.Screen.State.{Size, IsOnScreen}
use Rattle.ans_model.specs.declared.mark.Mark.TheVariants.{Unmarked}
use Rattle.ans_screen.specs.KnownBits.{KnownBits, known_after}
use Rattle.ans_tokens.specs.ScannerView as view
use Rattle.ans_tokens.specs.ScannerView.{Keeps, Fresh}
use Rattle.ans_tokens.specs.WholeToken.{IsSequenceFront}
use Rattle.ans_play.specs.declared.play.brush.Brush.{Brush}
use Rattle.ans_play.specs.declared.play.sequence.ReadSequence.{ReadSequence}
use Rattle.ans_play.specs.HalfState.{one_position}
use Rattle.ans_play.specs.HalfStep.{known_after_all}
use Rattle.ans_play.specs.PlayView.{PlayView}
use Rattle.ans_play.specs.Stands.{PlaysWholeTokens}

-- the play with its cursor at the brush's position, and with the brush's attribute
abbrev pub with_brush : PlayView → Brush → PlayView
with_brush p b = record p {
  state = record p.state {
    cursor = one_position b.position.row b.position.column;
    attribute = b.attribute;
  };
}

-- the brush is on the screen, and what is known of its attribute are bits of a byte
pub record IsBrush (z : Size) (b : Brush) : Type 0 where
  pub on_screen : IsOnScreen z b.position
  pub attribute : IsByte b.attribute.value

-- The first `count` bytes are whole tokens, which are played by the brush; without any nothing changes.
pub record BrushPlays (old : PlayView) (brush : Brush) (bytes : List ℕ) (count : ℕ) (new : PlayView)
    (after : Brush) : Type 0 where
  pub on : IsBrush new.size after
  pub within : count ≤ length bytes
  pub played : PlaysWholeTokens (with_brush old brush) (take count bytes) (with_brush new after)
  pub none : count ≡ 0 → with_brush new after ≡ with_brush old brush

-- the numbers of colours: without any it is a 0
abbrev pub colour_numbers : List ℕ → List ℕ
colour_numbers [] = 0 ∷ []
colour_numbers (n ∷ numbers) = n ∷ numbers

-- the numbers of a sequence that has two at most
abbrev pub few_numbers : ReadSequence → List ℕ
few_numbers read =
    if read.end == 3 then []
    else (if read.semicolons == 0 then read.last ∷ [] else read.previous ∷ read.last ∷ [])

-- There are numbers which the first bytes spell with the letter. The reader keeps the last two of them, how many
-- semicolons are between them, and the attribute after all but the last as colours.
pub record IsReadFront (bytes : List ℕ) (attribute : KnownBits) (read : ReadSequence) : Type 0 where
  pub numbers : List ℕ
  pub some : 3 ≤ read.end
  pub front : is_ascii_alphabetic read.letter ≡ true
      → IsSequenceFront bytes Unmarked numbers read.letter read.end
  pub few : read.semicolons ≤ 1 → few_numbers read ≡ numbers
  pub coloured : known_after read.coloured read.last ≡ known_after_all attribute (colour_numbers numbers)

-- A reader has come to an index after `[` or a semicolon. There are numbers whose members the bytes before it spell.
pub record IsReading (bytes : List ℕ) (attribute : KnownBits) (semicolons at previous : ℕ)
    (coloured : KnownBits) : Type 0 where
  pub numbers : List ℕ
  pub kept : semicolons < most_parameters → Keeps (view.Sequence Unmarked numbers false Fresh) (take at bytes)
  pub count : length numbers ≡ semicolons
  pub low : 2 + semicolons ≤ at
  pub high : at ≤ 2 + 4 * semicolons
  pub previous_is : semicolons ≡ 1 → numbers ≡ previous ∷ []
  pub coloured_is : coloured ≡ known_after_all attribute numbers
