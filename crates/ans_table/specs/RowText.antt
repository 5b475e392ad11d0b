-- The lines of a table.
use Rattle.std.specs.Prelude.{ℕ, List, [], ◌∷◌, ◌++◌, Option, codes, unwrap_or}
use Rattle.std.specs.List.{flat_map}
use Rattle.ans_model.specs.Text.FaultText.{line_of}
use Rattle.ans_table.specs.Columns.{column, content_columns, record_columns, stated_columns, verdict_columns}
use Rattle.ans_table.specs.Findings.{RowFinding, parts_of, sauce_of}
use Rattle.ans_table.specs.NameText.{name_text}

-- the names of the columns but the last
abbrev pub column_names : List (List ℕ)
column_names =
    codes "verdict" ∷ codes "needs" ∷ codes "players" ∷ codes "needs_on_all_players"
    ∷ codes "taller_screens" ∷ codes "fault" ∷ codes "at" ∷ codes "row" ∷ codes "column" ∷ codes "width" ∷ codes "lines"
    ∷ codes "content" ∷ codes "notes" ∷ codes "ice" ∷ codes "spacing" ∷ codes "aspect" ∷ codes "font" ∷ codes "date"
    ∷ codes "title" ∷ codes "author" ∷ codes "group" ∷ []

-- the line of the columns' names
abbrev pub header_line : List ℕ
header_line = flat_map column column_names ++ line_of (codes "file")

-- the same with a column for checksums of pictures
abbrev pub pictured_header_line : List ℕ
pictured_header_line = flat_map column column_names ++ (column (codes "file") ++ line_of (codes "picture"))

-- the row of a file of this name, without its end
abbrev pub row_text : List ℕ → RowFinding → List ℕ
row_text name finding =
    verdict_columns finding
    ++ (stated_columns (sauce_of finding)
    ++ (content_columns (parts_of finding) ++ (record_columns (sauce_of finding) ++ name_text name)))

-- the row of a file of this name
abbrev pub row_line : List ℕ → RowFinding → List ℕ
row_line name finding = line_of (row_text name finding)

-- the same with the checksum of its picture, of which there may be none
abbrev pub pictured_row_line : List ℕ → RowFinding → Option (List ℕ) → List ℕ
pictured_row_line name finding picture = column (row_text name finding) ++ line_of (unwrap_or picture [])

-- a file's name, and what is found of it or why it was not read
pub record Row : Type 0 where
  pub name : List ℕ
  pub finding : RowFinding
