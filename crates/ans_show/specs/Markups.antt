-- How the lines of a picture are written in each markup.
use Rattle.std.specs.Prelude.{ℕ, List, [], ◌++◌, codes, encode_utf8, flat_map, ⊤}
use Rattle.ans_model.specs.declared.cell.Cell.{Cell}
use Rattle.ans_model.specs.Text.Characters.{glyph_text}
use Rattle.ans_show.specs.declared.markup.Markup.{Markup}
use Rattle.ans_show.specs.declared.markup.Markup.TheVariants.{Terminal, Page}
use Rattle.ans_show.specs.Looks.{look_of}
use Rattle.ans_show.specs.PageText.{page_character, run_span, span_text}
use Rattle.ans_show.specs.Runs.{Run, runs}
use Rattle.ans_show.specs.TerminalText.{colours_text, run_text, terminal_line_end}

-- the markup is a page
abbrev pub IsPage : Markup → Type 0
IsPage (Terminal vga non_blink) = ⊥
IsPage (Page non_blink) = ⊤

-- the text of a run
abbrev pub run_in : Markup → Run → List ℕ
run_in (Terminal vga non_blink) = run_text vga non_blink
run_in (Page non_blink) = run_span non_blink

-- the end of a line
abbrev pub end_in : Markup → List ℕ
end_in (Terminal vga non_blink) = terminal_line_end
end_in (Page non_blink) = codes "\n"

-- the line of a row
abbrev pub line_in : Markup → List Cell → List ℕ
line_in markup row = flat_map (run_in markup) (runs row) ++ end_in markup

-- where a run begins, by its attribute
abbrev pub start_in : Markup → ℕ → List ℕ
start_in (Terminal vga non_blink) attribute = colours_text vga (look_of non_blink attribute)
start_in (Page non_blink) attribute = span_text (look_of non_blink attribute)

-- how a byte is shown
abbrev pub character_in : Markup → ℕ → List ℕ
character_in (Terminal vga non_blink) byte = encode_utf8 (glyph_text byte)
character_in (Page non_blink) byte = page_character byte

-- where a run ends
abbrev pub run_end_in : Markup → List ℕ
run_end_in (Terminal vga non_blink) = []
run_end_in (Page non_blink) = codes "</span>"

-- between two runs: the first one ends, and one of this attribute begins
abbrev pub break_in : Markup → ℕ → List ℕ
break_in markup attribute = run_end_in markup ++ start_in markup attribute
