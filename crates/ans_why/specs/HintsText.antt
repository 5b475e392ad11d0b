-- The lines of hints.
use Rattle.std.specs.Prelude.{ℕ, ◌==◌, Bool, true, false, not, List, [], ◌++◌, codes, decimal, Option, None, Some}
use Rattle.std.specs.Prelude.{if◌then◌else◌}
use Rattle.ans_model.specs.Text.Characters.{shown_bytes}
use Rattle.ans_model.specs.Text.FaultText.{line_of}
use Rattle.ans_why.specs.Fonts.{font_name, has_other_code_page, is_latin_font}
use Rattle.ans_why.specs.HintRows.{Hint, Words, words_for}
use Rattle.ans_why.specs.HintRows as row
use Rattle.ans_hints.specs.Hints.{much_dark}
use Rattle.ans_hints.specs.RowEnds.{are_all_ended, wider_rows}
use Rattle.ans_hints.specs.declared.hints.Hints.{Hints}
use Rattle.ans_hints.specs.declared.row_ends.WiderRows.{WiderRows}
use Rattle.ans_pens.specs.declared.times.Times.{Times}
use Rattle.ans_why.specs.TextDamage.{lost_told}
use Rattle.ans_why.specs.declared.text_damage.TextDamage.{TextDamage}

-- a line that begins with `hint: `
abbrev pub hint_line : List ℕ → List ℕ
hint_line text = line_of (codes "hint: " ++ text)

-- what comes between the words and the offset of the first
abbrev pub first_at : Words
first_at = record { one = codes ", at "; more = codes ", first at " }

-- how many there are, and where the first is
abbrev pub counted_words : Words → Times → List ℕ
counted_words what times =
    decimal times.count
    ++ (codes " " ++ (words_for what times.count ++ (words_for first_at times.count ++ decimal times.first)))

-- what there is, and what to do about it; no line if there is none
abbrev pub counted_line : Hint → Option Times → List ℕ
counted_line hint None = []
counted_line hint (Some times) =
    hint_line (hint.before ++ (counted_words hint.what times ++ words_for hint.advice times.count))

-- rows of a drawing that was made for more columns
abbrev pub wider_line : Option WiderRows → List ℕ
wider_line None = []
wider_line (Some rows) =
    hint_line (counted_words row.rows_over rows.times
    ++ (codes "; they need at least "
    ++ (decimal rows.columns ++ (codes " columns: --columns " ++ decimal rows.columns))))

-- a font that is known for other characters, or not known, by the field that names it
abbrev pub font_line : List ℕ → List ℕ
font_line field =
    if has_other_code_page (font_name field) then hint_line (codes "the font "
    ++ (shown_bytes (font_name field)
    ++ codes " is not a code page 437 font; some characters may look different"))
    else []

-- the lines below all that is printed
abbrev pub empty_rows_line : ℕ → List ℕ
empty_rows_line rows =
    if rows == 0 then []
    else if rows == 1 then hint_line (codes "the last line is empty")
    else hint_line (codes "the last " ++ (decimal rows ++ codes " lines are empty"))

-- the hints of rows, of wider ones only these
abbrev pub row_hints : Hints → Option WiderRows → List ℕ
row_hints hints wider =
    counted_line (row.bare_line_feeds hints.row_ends.returns) hints.loose_line_feeds
    ++ (counted_line (row.ended_rows (not (are_all_ended hints.row_ends))) hints.row_ends.ended
    ++ (wider_line wider ++ counted_line row.overprints hints.row_ends.overprints))

-- letters of Latin-1, unless the font in the record's field has them
abbrev pub latin_told : List ℕ → Option Times → Option Times
latin_told field letters = if is_latin_font (font_name field) then None else letters

-- the hints of text of other systems
abbrev pub foreign_hints : Hints → List ℕ → List ℕ
foreign_hints hints field =
    counted_line row.wide_characters hints.wide_characters
    ++ (counted_line row.two_byte_letters hints.two_byte_letters
    ++ (counted_line row.latin_letters (latin_told field hints.latin_letters)
    ++ counted_line row.board_codes hints.board_codes))

-- the hints of colours
abbrev pub colour_hints : Hints → List ℕ
colour_hints hints =
    counted_line row.modern_colours hints.later_colours
    ++ (counted_line row.off_switches hints.off_switches
    ++ (counted_line row.blinking hints.blinking_glyphs ++ counted_line row.dark_grey (much_dark hints)))

-- the hints of a content, of wider rows only these, and that of the font, by the record's field
abbrev pub told_text : Hints → Option WiderRows → List ℕ → List ℕ
told_text hints wider field =
    row_hints hints wider
    ++ (foreign_hints hints field
    ++ (colour_hints hints ++ (font_line field ++ empty_rows_line hints.empty_rows)))

-- with all wider rows
abbrev pub hints_text : Hints → List ℕ → List ℕ
hints_text hints field = told_text hints (wider_rows hints.row_ends) field

-- Wider rows are reported of a content that passes if it does not need all lines that are stated.
abbrev pub wider_told : Hints → Option WiderRows
wider_told hints = if hints.empty_rows == 0 then None else wider_rows hints.row_ends

abbrev pub pass_hints_text : Hints → List ℕ → List ℕ
pass_hints_text hints field = told_text hints (wider_told hints) field

-- the mark of UTF-8
abbrev pub mark_line : Bool → List ℕ
mark_line true = hint_line (codes "the file begins with EF BB BF, the mark of UTF-8: remove these bytes")
mark_line false = []

-- what seems to have happened to a text on its way
abbrev pub text_lines : TextDamage → List ℕ
text_lines damage =
    counted_line row.lost_escapes (lost_told damage)
    ++ (counted_line row.shown_escapes damage.shown_escapes
    ++ (counted_line row.short_escapes damage.short_escapes
    ++ (counted_line row.converted damage.converted
    ++ (counted_line row.lone_returns damage.returns ++ mark_line damage.mark))))
