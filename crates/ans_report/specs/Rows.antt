-- How the rows of a picture are shown.
use Rattle.std.specs.Prelude.{ℕ, List}
use Rattle.ans_model.specs.declared.cell.Cell.{Cell}
use Rattle.ans_model.specs.Text.ReportText.{picture_line, cells_line}
use Rattle.ans_report.specs.declared.picture_text.CellsForm.{CellsForm}
use Rattle.ans_report.specs.declared.picture_text.CellsForm.TheVariants.{Characters, Digits}

-- the line of a row
abbrev pub line_text : CellsForm → List Cell → List ℕ
line_text Characters = picture_line
line_text Digits = cells_line
