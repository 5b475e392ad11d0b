-- The hints of content.
use Rattle.std.specs.Prelude.{◌≡◌, ℕ, ◌*◌, Bool, not, ◌&&◌, ◌||◌, nat_lt, List, Option, None, is_some, if◌then◌else◌}
use Rattle.ans_model.specs.Sequence.TokenKind.{TokenKind}
use Rattle.ans_model.specs.Screen.State.{Size}
use Rattle.ans_model.specs.Screen.StartClass.{cleared}
use Rattle.ans_hints.specs.Places.{places, places_before, times_of}
use Rattle.ans_hints.specs.Conditions.{keeps_column, loose_line_feed, wide_character, two_byte_letter, latin_letter}
use Rattle.ans_hints.specs.Conditions.{board_code, later_colours, off_switches, blinking_glyph, dark_glyph, seen_glyph}
use Rattle.ans_pens.specs.Counted.{count_of}
use Rattle.ans_hints.specs.RowEnds.{are_all_ended, nothing_written, wider_rows, written_after}
use Rattle.ans_hints.specs.Rows.{empty_rows}
use Rattle.ans_hints.specs.declared.hints.Hints.{Hints}
use Rattle.ans_pens.specs.declared.times.Times.{Times}

-- The hints of bytes that are read as these tokens with these texts, in the play from the cleared start. Other bytes
-- may follow: no token there counts, but those bytes decide what the last tokens are. A letter of UTF-8 or of Latin-1
-- has its own offset, one byte after the letter before it.
pub record AreHints (z : Size) (non_blink : Bool) (tokens : List TokenKind) (texts : List (List ℕ)) (behind : List ℕ)
    (hints : Hints) : Type 0 where
  pub loose_line_feeds : hints.loose_line_feeds
      ≡ times_of (places_before keeps_column loose_line_feed z (cleared z) 0 tokens texts behind)
  pub row_ends : hints.row_ends ≡ (written_after z (cleared z) 0 (nothing_written z) tokens texts).ends
  pub wide_characters : hints.wide_characters ≡ times_of (places wide_character z (cleared z) 0 tokens texts behind)
  pub two_byte_letters : hints.two_byte_letters ≡ times_of (places two_byte_letter z (cleared z) 1 tokens texts behind)
  pub latin_letters : hints.latin_letters ≡ times_of (places latin_letter z (cleared z) 1 tokens texts behind)
  pub board_codes : hints.board_codes ≡ times_of (places board_code z (cleared z) 0 tokens texts behind)
  pub later_colours : hints.later_colours ≡ times_of (places later_colours z (cleared z) 0 tokens texts behind)
  pub off_switches : hints.off_switches ≡ times_of (places off_switches z (cleared z) 0 tokens texts behind)
  pub blinking_glyphs : hints.blinking_glyphs
      ≡ (if non_blink then None else times_of (places blinking_glyph z (cleared z) 0 tokens texts behind))
  pub seen_glyphs : hints.seen_glyphs ≡ times_of (places seen_glyph z (cleared z) 0 tokens texts behind)
  pub dark_glyphs : hints.dark_glyphs ≡ times_of (places dark_glyph z (cleared z) 0 tokens texts behind)
  pub empty_rows : hints.empty_rows ≡ empty_rows z tokens

-- what is dark grey on black, if it is more than a tenth of what is seen
abbrev pub much_dark : Hints → Option Times
much_dark hints =
    if nat_lt (count_of hints.seen_glyphs) (10 * count_of hints.dark_glyphs) then hints.dark_glyphs else None

-- The rows are broken: line feeds go straight down and there is no return; or every full row has a line end after it;
-- or the rows are those of a drawing for more columns; or characters are in three or four bytes of UTF-8.
abbrev pub are_torn : Hints → Bool
are_torn hints =
    (is_some hints.loose_line_feeds && not hints.row_ends.returns) || are_all_ended hints.row_ends
    || is_some (wider_rows hints.row_ends) || is_some hints.wide_characters
