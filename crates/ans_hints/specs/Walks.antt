-- The hints of a front of a content, token by token.
use Rattle.std.specs.Prelude.{◌≡◌, ℕ, ◌+◌, ◌-◌, ◌<◌, ◌≤◌, Bool, false, not, ◌&&◌, ◌||◌, ◌==◌, nat_le, min, get_or}
use Rattle.std.specs.Prelude.{List, [], ◌∷◌, length, Option, IsTrue, if◌then◌else◌}
use Rattle.ans_model.specs.Sequence.TokenKind.{TokenKind}
use Rattle.ans_model.specs.Screen.State.{State}
use Rattle.ans_model.specs.Screen.Step.{final, step}
use Rattle.ans_model.specs.Screen.StartClass.{cleared}
use Rattle.ans_pens.specs.Pens.{further, pen_of, StandsOn}
use Rattle.ans_tokens.specs.Walk.{Front}
use Rattle.ans_hints.specs.Conditions.{loose_line_feed, wide_character, two_byte_letter, latin_letter, board_code}
use Rattle.ans_hints.specs.Conditions.{later_colours, off_switches, blinking_glyph, dark_glyph, is_seen, seen_glyph}
use Rattle.ans_hints.specs.Conditions.{prints, sets_column}
use Rattle.ans_hints.specs.Places.{places_before, times_of}
use Rattle.ans_pens.specs.declared.times.Times.{Times}
use Rattle.ans_hints.specs.RowEnds.{CountsRows, is_stuck, nothing_written, printed_in, row_ends_with, row_with}
use Rattle.ans_hints.specs.RowEnds.{written_after}
use Rattle.ans_pens.specs.Counted.{count_of, counted, counted_along, counted_times}
use Rattle.ans_hints.specs.Hints.{AreHints}
use Rattle.ans_hints.specs.Rows.{empty_with}
use Rattle.ans_hints.specs.declared.hints.Hints.{Hints}
use Rattle.ans_hints.specs.declared.row.Seam.TheVariants.{Other}
use Rattle.ans_hints.specs.declared.walk.Walk.{Walk}

-- something is printed before the column is set: a line feed before these tokens is loose, whatever follows them
abbrev pub is_settled : List TokenKind → Bool
is_settled [] = false
is_settled (t ∷ tokens) = prints t || (not (sets_column t) && is_settled tokens)

-- the loose line feeds with one token more: where that sets the column, only those that something was printed after
abbrev pub loose_with : Walk → State → ℕ → TokenKind → List ℕ → Option Times
loose_with walk s offset t rest =
    if sets_column t then walk.loose_before
    else counted walk.hints.loose_line_feeds (loose_line_feed walk.size s t rest) offset

-- and those of them that something was printed after
abbrev pub loose_before_with : Walk → TokenKind → Option Times
loose_before_with walk t = if prints t then walk.hints.loose_line_feeds else walk.loose_before

-- the hints with one token more, which is at this offset in this state, before these bytes
abbrev pub hints_with : Walk → State → ℕ → TokenKind → List ℕ → Hints
hints_with walk s offset t rest = record {
  loose_line_feeds = loose_with walk s offset t rest;
  row_ends = row_ends_with walk.size s offset walk.row walk.hints.row_ends t;
  wide_characters = counted walk.hints.wide_characters (wide_character walk.size s t rest) offset;
  two_byte_letters = counted walk.hints.two_byte_letters (two_byte_letter walk.size s t rest) (offset + 1);
  latin_letters = counted walk.hints.latin_letters (latin_letter walk.size s t rest) (offset + 1);
  board_codes = counted walk.hints.board_codes (board_code walk.size s t rest) offset;
  later_colours = counted walk.hints.later_colours (later_colours walk.size s t rest) offset;
  off_switches = counted walk.hints.off_switches (off_switches walk.size s t rest) offset;
  blinking_glyphs = counted walk.hints.blinking_glyphs
      (not walk.non_blink && blinking_glyph walk.size s t rest) offset;
  seen_glyphs = counted walk.hints.seen_glyphs (seen_glyph walk.size s t rest) offset;
  dark_glyphs = counted walk.hints.dark_glyphs (dark_glyph walk.size s t rest) offset;
  empty_rows = empty_with walk.size s walk.hints.empty_rows t;
}

-- which bytes of a run are seen, and which are seen and dark
abbrev pub seen_at : List ℕ → ℕ → Bool
seen_at run k = is_seen (get_or run k 0)

abbrev pub dark_at : List ℕ → ℕ → ℕ → Bool
dark_at run attribute k = is_seen (get_or run k 0) && attribute == 0x08

-- the hints after a run of plain bytes that stays in its row, the first of which is at this offset
abbrev pub hints_past : Walk → List ℕ → ℕ → Hints
hints_past walk run offset = record walk.hints {
  row_ends = printed_in walk.pen.cursor.row walk.hints.row_ends;
  blinking_glyphs = counted_times walk.hints.blinking_glyphs
      (not walk.non_blink && nat_le 0x80 walk.pen.attribute) (length run) offset;
  seen_glyphs = counted_along walk.hints.seen_glyphs (seen_at run) offset (length run);
  dark_glyphs = counted_along walk.hints.dark_glyphs (dark_at run walk.pen.attribute) offset (length run);
  empty_rows = min walk.hints.empty_rows (walk.size.lines - (walk.pen.cursor.row + 1));
}

-- the walk after such a run
abbrev pub walk_past : Walk → List ℕ → ℕ → Walk
walk_past walk run offset = record walk {
  pen = further walk.pen (length run);
  row = record walk.row { seam = Other };
  loose_before = walk.hints.loose_line_feeds;
  hints = hints_past walk run offset;
}

-- this many bytes that are printed next stay in their row, and none is printed over another
pub record StaysInRow (walk : Walk) (count : ℕ) : Type 0 where
  pub loose : is_stuck walk.row.seam ≡ false
  pub stays : walk.pen.cursor.column + count < walk.size.width

-- there are no more times of anything than bytes so far
pub record CountsWithin (hints : Hints) (offset : ℕ) : Type 0 where
  pub loose_line_feeds : count_of hints.loose_line_feeds ≤ offset
  pub row_ends : CountsRows hints.row_ends offset
  pub wide_characters : count_of hints.wide_characters ≤ offset
  pub two_byte_letters : count_of hints.two_byte_letters ≤ offset
  pub latin_letters : count_of hints.latin_letters ≤ offset
  pub board_codes : count_of hints.board_codes ≤ offset
  pub later_colours : count_of hints.later_colours ≤ offset
  pub off_switches : count_of hints.off_switches ≤ offset
  pub blinking_glyphs : count_of hints.blinking_glyphs ≤ offset
  pub seen_glyphs : count_of hints.seen_glyphs ≤ offset
  pub dark_glyphs : count_of hints.dark_glyphs ≤ offset

-- the cursors are on the screen, and no more was counted than the bytes up to this offset
pub record IsAt (walk : Walk) (offset : ℕ) : Type 0 where
  pub stands : StandsOn walk.size walk.pen
  pub within : CountsWithin walk.hints offset
  pub loose_before : count_of walk.loose_before ≤ offset
  pub wraps : walk.row.wraps ≤ offset

-- The first walk has gone over one token more, which is at this offset before these bytes, and has become the other.
pub record GoesOver (old new : Walk) (offset : ℕ) (t : TokenKind) (rest : List ℕ) : Type 0 where
  pub size : new.size ≡ old.size
  pub non_blink : new.non_blink ≡ old.non_blink
  pub pen : (s : State) → old.pen ≡ pen_of s → new.pen ≡ pen_of (step old.size s t)
  pub row : (s : State) → old.pen ≡ pen_of s → new.row ≡ row_with old.size s offset old.row t
  pub loose_before : new.loose_before ≡ loose_before_with old t
  pub hints : (s : State) → old.pen ≡ pen_of s → new.hints ≡ hints_with old s offset t rest

-- Over the front the first walk has become the other, which goes on: it is the play of the front's tokens, and has
-- their hints.
pub record HasWalked (first : Walk) (front : Front) (goes_on : Bool) (now : Walk) : Type 0 where
  pub never_stops : IsTrue goes_on
  pub size : now.size ≡ first.size
  pub non_blink : now.non_blink ≡ first.non_blink
  pub texts : length front.texts ≡ length front.tokens
  pub row : now.row ≡ (written_after first.size (cleared first.size) 0 (nothing_written first.size) front.tokens
      front.texts).row
  pub pen : now.pen ≡ pen_of (final first.size (cleared first.size) front.tokens)
  pub loose_before : now.loose_before ≡ times_of (places_before is_settled loose_line_feed first.size
      (cleared first.size) 0 front.tokens front.texts front.behind)
  pub hints : AreHints first.size first.non_blink front.tokens front.texts front.behind now.hints
