-- What is said in the hints that are counted.
use Rattle.std.specs.Prelude.{ℕ, ◌==◌, List, [], codes, if◌then◌else◌, Bool, ◌++◌}
use Rattle.ans_why.specs.declared.hint_rows.HintRow.{HintRow}
use Rattle.ans_why.specs.declared.hint_rows.Wording.{Wording}

-- a text for one thing, and a text for more of them
pub record Words : Type 0 where
  pub one : List ℕ
  pub more : List ℕ

-- the text for that many
abbrev pub words_for : Words → ℕ → List ℕ
words_for words count = if count == 1 then words.one else words.more

-- the same text for any number
abbrev pub always : List ℕ → Words
always text = record { one = text; more = text }

-- what comes before the number and after it, and the advice after the offset
pub record Hint : Type 0 where
  pub before : List ℕ
  pub what : Words
  pub advice : Words

-- the words of the program, as texts
abbrev pub words_of : Wording → Words
words_of wording = record { one = wording.one.now; more = wording.more.now }

-- the row of the program, as texts
abbrev pub hint_of : HintRow → Hint
hint_of row = record { before = row.before.now; what = words_of row.what; advice = words_of row.advice }

-- ---- the advice

abbrev pub no_advice : Words
no_advice = always []

-- what to do with text of another system
abbrev pub convert : Words
convert = always (codes ": convert the text to code page 437")

-- what to write for a switch that only later terminals know
abbrev pub reset_instead : Words
reset_instead = always (codes ": write ESC[0m and the colours that stay")

abbrev pub if_bright : Words
if_bright = record {
  one = codes "; if it should have a bright background: --ice";
  more = codes "; if they should have bright backgrounds: --ice";
}

abbrev pub seen_as_black : Words
seen_as_black = record {
  one = codes "; some terminals show it as black";
  more = codes "; some terminals show them as black";
}

-- ---- the hints

-- a hint that begins with its number
abbrev hint : List ℕ → List ℕ → Words → Hint
hint one more advice = record { before = []; what = record { one = one; more = more }; advice = advice }

-- the flag, or both if only some need it
abbrev pub mixed_advice : Bool → List ℕ → Words
mixed_advice mixed flag = always (if mixed then flag ++ codes " --mixed" else flag)

abbrev pub bare_line_feeds : Bool → Hint
bare_line_feeds mixed =
    hint (codes "bare line feed makes a staircase") (codes "bare line feeds make a staircase")
    (mixed_advice mixed (codes ": --crlf"))

abbrev pub ended_rows : Bool → Hint
ended_rows mixed =
    hint (codes "full row is followed by a line end and leaves a blank row")
    (codes "full rows are followed by a line end and leave a blank row")
    (mixed_advice mixed (codes ": --join-rows"))

abbrev pub rows_over : Words
rows_over = record { one = codes "row is wider than the screen"; more = codes "rows are wider than the screen" }

abbrev pub overprints : Hint
overprints = record {
  before = codes "wrap is off, and ";
  what = record {
    one = codes "character overprints the last column";
    more = codes "characters overprint the last column";
  };
  advice = no_advice;
}

abbrev pub wide_characters : Hint
wide_characters = hint (codes "character looks like UTF-8") (codes "characters look like UTF-8") convert

abbrev pub two_byte_letters : Hint
two_byte_letters = hint (codes "letter looks like UTF-8") (codes "letters look like UTF-8") convert

abbrev pub latin_letters : Hint
latin_letters = hint (codes "letter looks like Latin-1") (codes "letters look like Latin-1") convert

abbrev pub board_codes : Hint
board_codes =
    hint (codes "bulletin-board colour code (|07, @X1F) is printed as text")
    (codes "bulletin-board colour codes (|07, @X1F) are printed as text") no_advice

abbrev pub modern_colours : Hint
modern_colours =
    hint (codes "sequence uses modern colours (38, 48, 90 to 97, 100 to 107)")
    (codes "sequences use modern colours (38, 48, 90 to 97, 100 to 107)") no_advice

abbrev pub off_switches : Hint
off_switches =
    hint (codes "sequence uses modern off switches (22, 27, 39, 49)")
    (codes "sequences use modern off switches (22, 27, 39, 49)") reset_instead

abbrev pub blinking : Hint
blinking = hint (codes "character blinks") (codes "characters blink") if_bright

abbrev pub dark_grey : Hint
dark_grey =
    hint (codes "character is dark grey on black") (codes "characters are dark grey on black") seen_as_black

abbrev pub lost_escapes : Hint
lost_escapes =
    hint (codes "sequence has lost its ESC") (codes "sequences have lost their ESC")
    (record { one = codes ": put 1Bh before its ["; more = codes ": put 1Bh before each [" })

abbrev pub shown_escapes : Hint
shown_escapes =
    hint (codes "sequence has ^[ or <- in place of ESC") (codes "sequences have ^[ or <- in place of ESC")
    (always (codes ": put 1Bh there"))

abbrev pub short_escapes : Hint
short_escapes =
    hint (codes "sequence begins with 9Bh") (codes "sequences begin with 9Bh")
    (always (codes ": write ESC[ in its place"))

abbrev pub converted : Hint
converted =
    hint (codes "character looks like Latin-1 that was made UTF-8")
    (codes "characters look like Latin-1 that was made UTF-8")
    (always (codes ": convert the text from UTF-8 to Latin-1"))

abbrev pub lone_returns : Hint
lone_returns =
    hint (codes "return comes without a line feed") (codes "returns come without line feeds")
    (record { one = codes ": put 0Ah after it"; more = codes ": put 0Ah after each" })
