-- The picture for a terminal.
use Rattle.std.specs.Prelude.{ℕ, ◌+◌, ◌-◌, Bool, true, false, nat_lt, List, [], ◌∷◌, ◌++◌, codes, decimal, flat_map}
use Rattle.std.specs.Prelude.{slice_index, slice_index_or, if◌then◌else◌}
use Rattle.ans_model.specs.Bytes.{escape, semicolon}
use Rattle.ans_model.specs.declared.cell.Cell.{Cell}
use Rattle.ans_model.specs.Verdict.Good.{Picture}
use Rattle.ans_model.specs.Text.Characters.{shown_bytes}
use Rattle.ans_model.specs.Text.ReportText.{rows_of}
use Rattle.ans_show.specs.Looks.{Look, look_of}
use Rattle.ans_show.specs.Runs.{Run, runs}

-- Where a terminal has the eight colours, whose bits are blue, green and red: it counts black, red, green, yellow,
-- blue, magenta, cyan, white.
abbrev pub terminal_order : ℕ → ℕ
terminal_order colour = slice_index (0 ∷ 4 ∷ 2 ∷ 6 ∷ 1 ∷ 5 ∷ 3 ∷ 7 ∷ []) colour

-- a foreground's parameter: 30 to 37, or 90 to 97 where it is bright
abbrev pub foreground_parameter : ℕ → ℕ
foreground_parameter colour =
    if nat_lt colour 8 then 30 + terminal_order colour else 90 + terminal_order (colour - 8)

-- a background's parameter: 40 to 47, or 100 to 107 where it is bright
abbrev pub background_parameter : ℕ → ℕ
background_parameter colour = 10 + foreground_parameter colour

-- red, green and blue
abbrev pub Triple : Type 0
Triple = ℕ × ℕ × ℕ

-- the sixteen colours of a VGA, in steps of 55h; the seventh is brown
abbrev pub vga_colours : List Triple
vga_colours =
    (0x00, 0x00, 0x00)
    ∷ (0x00, 0x00, 0xAA)
    ∷ (0x00, 0xAA, 0x00)
    ∷ (0x00, 0xAA, 0xAA)
    ∷ (0xAA, 0x00, 0x00)
    ∷ (0xAA, 0x00, 0xAA)
    ∷ (0xAA, 0x55, 0x00)
    ∷ (0xAA, 0xAA, 0xAA)
    ∷ (0x55, 0x55, 0x55)
    ∷ (0x55, 0x55, 0xFF)
    ∷ (0x55, 0xFF, 0x55)
    ∷ (0x55, 0xFF, 0xFF)
    ∷ (0xFF, 0x55, 0x55)
    ∷ (0xFF, 0x55, 0xFF)
    ∷ (0xFF, 0xFF, 0x55)
    ∷ (0xFF, 0xFF, 0xFF)
    ∷ []

-- the mixed colour of a number
abbrev pub vga_colour : ℕ → Triple
vga_colour colour = slice_index_or vga_colours colour (0, 0, 0)

-- a parameter after another
abbrev pub parameter : ℕ → List ℕ
parameter n = semicolon ∷ decimal n

-- a colour that is mixed, after 38 for a foreground and 48 for a background
abbrev pub mixed : ℕ → Triple → List ℕ
mixed n (red, green, blue) = parameter n ++ (parameter 2 ++ (parameter red ++ (parameter green ++ parameter blue)))

-- a foreground: by its parameter, or mixed as a VGA does
abbrev pub foreground_text : Bool → ℕ → List ℕ
foreground_text false colour = parameter (foreground_parameter colour)
foreground_text true colour = mixed 38 (vga_colour colour)

-- a background: by its parameter, or mixed as a VGA does
abbrev pub background_text : Bool → ℕ → List ℕ
background_text false colour = parameter (background_parameter colour)
background_text true colour = mixed 48 (vga_colour colour)

-- where the cells begin to look so, whatever was before
abbrev pub colours_text : Bool → Look → List ℕ
colours_text vga l =
    (escape ∷ codes "[0")
    ++ ((if l.blinks then parameter 5 else [])
    ++ (foreground_text vga l.foreground ++ (background_text vga l.background ++ codes "m")))

-- the colours of a run, and then its characters
abbrev pub run_text : Bool → Bool → Run → List ℕ
run_text vga non_blink r = colours_text vga (look_of non_blink r.attribute) ++ shown_bytes r.bytes

-- a line's end, after which nothing is coloured
abbrev pub terminal_line_end : List ℕ
terminal_line_end = escape ∷ codes "[0m\n"

-- the line of a row
abbrev pub terminal_line : Bool → Bool → List Cell → List ℕ
terminal_line vga non_blink row = flat_map (run_text vga non_blink) (runs row) ++ terminal_line_end

-- The text for a terminal: in its own colours or in those of a VGA, with blink or, where the record's non-blink flag is
-- set, with bright backgrounds.
abbrev pub terminal_text : Bool → Bool → Picture → List ℕ
terminal_text vga non_blink picture = flat_map (terminal_line vga non_blink) (rows_of picture)
