-- The text of a report.
use Rattle.std.specs.Prelude.{ℕ, ◌+◌, ◌*◌, zero, suc, Bool, List, [], ◌∷◌, ◌++◌, map, take, drop, codes, decimal}
use Rattle.std.specs.Prelude.{flat_map, if◌then◌else◌, ◌&&◌, ◌||◌, Option, Some, None}
use Rattle.ans_model.specs.declared.fault.Fault.{Fault}
use Rattle.ans_model.specs.declared.note.Note.{Note}
use Rattle.ans_model.specs.declared.start.Start.{Start}
use Rattle.ans_model.specs.declared.cell.Cell.{Cell}
use Rattle.ans_model.specs.Screen.State.{Size, cell}
use Rattle.ans_model.specs.Verdict.Good.{Picture}
use Rattle.ans_model.specs.Text.Characters.{shown_bytes}
use Rattle.ans_model.specs.Text.Hexadecimal.{hex_byte, hex_value}
use Rattle.ans_model.specs.Text.FaultText.{line_of, fault_line, note_line}
use Rattle.ans_model.specs.Text.Words.{part_names, words_text}

-- What a report says before its verdict, or before what a content needs. The length is in bytes; needs name no start.
pub record Heading : Type 0 where
  pub size : Size
  pub start : Option Start
  pub content_length : ℕ
  pub notes : List Note

-- the verdict: a picture, with or without its cells, or a fault
pub data ReportVerdict : Type 0 where
  Passed : (picture : Picture) (with_cells : Bool) → ReportVerdict
  RefusedFor : (fault : Fault) → ReportVerdict

-- the name of a class of starts: the parts that are known, where they are not all or none
abbrev pub start_name : Start → List ℕ
start_name s =
    if s.screen && s.cursor && s.saved && s.colours && s.wrap then codes "cleared"
    else if s.screen || s.cursor || s.saved || s.colours || s.wrap then
    codes "known " ++ words_text (part_names s)
    else codes "any"

-- the line of the class of starts, where it is named
abbrev pub start_line : Option Start → List ℕ
start_line None = []
start_line (Some s) = line_of (codes "start: " ++ start_name s)

-- a width and a number of lines
abbrev pub size_text : Size → List ℕ
size_text z = decimal z.width ++ (codes " x " ++ decimal z.lines)

-- the lines before the verdict, or before what is needed
abbrev pub heading_text : Heading → List ℕ
heading_text h =
    line_of (codes "size: " ++ size_text h.size)
    ++ (start_line h.start
    ++ (line_of (codes "content: " ++ (decimal h.content_length ++ codes " bytes"))
    ++ flat_map note_line h.notes))

-- the cells, row by row
abbrev pub rows : ℕ → ℕ → List Cell → List (List Cell)
rows width zero cells = []
rows width (suc lines) cells = take width cells ∷ rows width lines (drop width cells)

-- the picture's rows
abbrev pub rows_of : Picture → List (List Cell)
rows_of picture = rows picture.size.width picture.size.lines picture.cells

-- a character for each cell
abbrev pub picture_line : List Cell → List ℕ
picture_line row = line_of (shown_bytes (map (λ c. c.byte) row))

-- two digits for a cell's byte and two for its attribute
abbrev pub cell_digits : Cell → List ℕ
cell_digits c = hex_byte c.byte ++ hex_byte c.attribute

-- a row's cells in digits
abbrev pub cells_line : List Cell → List ℕ
cells_line row = line_of (flat_map cell_digits row)

-- the lines of a picture
abbrev pub picture_text : Picture → List ℕ
picture_text picture = line_of (codes "picture:") ++ flat_map picture_line (rows_of picture)

-- the lines of a picture's cells
abbrev pub cells_text : Picture → List ℕ
cells_text picture = line_of (codes "cells:") ++ flat_map cells_line (rows_of picture)

-- the text of a refusal by itself
abbrev pub refusal_text : Fault → List ℕ
refusal_text fault = line_of (codes "verdict: refused") ++ fault_line fault

-- the lines of the verdict
abbrev pub verdict_text : ReportVerdict → List ℕ
verdict_text (Passed picture with_cells) =
    line_of (codes "verdict: pass") ++ (picture_text picture ++ (if with_cells then cells_text picture else []))
verdict_text (RefusedFor fault) = refusal_text fault

-- the lines of a report
abbrev pub report_text : Heading → ReportVerdict → List ℕ
report_text heading verdict = heading_text heading ++ verdict_text verdict

-- four digits are a cell
abbrev pub cells_back : List ℕ → List Cell
cells_back (a ∷ b ∷ c ∷ d ∷ digits) = cell (16 * hex_value a + hex_value b) (16 * hex_value c + hex_value d)
    ∷ cells_back digits
cells_back _ = []

-- the cells that this many lines of digits spell
abbrev pub picture_back : ℕ → ℕ → List ℕ → List Cell
picture_back width zero text = []
picture_back width (suc lines) text = cells_back (take (4 * width) text)
    ++ picture_back width lines (drop (4 * width + 1) text)
