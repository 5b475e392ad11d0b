-- A report that tells the cells.
use Rattle.std.proofs.Common.{◌≡◌, ◌++◌, List, ℕ, true, false, Some, codes, append_assoc}
use Rattle.std.specs.List.{flat_map}
use Rattle.ans_model.specs.Verdict.Good.{Picture, IsPictureOf}
use Rattle.ans_model.specs.Text.ReportText.{Heading, Passed, heading_text, report_text, rows_of, picture_line}
use Rattle.ans_model.specs.Text.ReportText.{cells_line}
use Rattle.ans_model.proofs.CellsBack.{cells_of_picture_back}
use Rattle.ans_report.specs.declared.report.Report.{Report}
use Rattle.ans_report.specs.declared.report.Report.TheVariants.{Pass, Refused}
use Rattle.ans_report.specs.Headings.{heading_of}
use Rattle.ans_report.specs.ReportBytes.{EndsInCells, TellsCells}

cells_last : (heading verdict lines cells : List ℕ)
    → heading ++ (verdict ++ (lines ++ cells)) ≡ (heading ++ (verdict ++ lines)) ++ cells
cells_last heading verdict lines cells = simp append_assoc

ends_in_cells : (h : Heading) (p : Picture) → IsPictureOf p.size p → EndsInCells p (report_text h (Passed p true))
ends_in_cells h p whole = record {
  front = heading_text h ++ (codes "verdict: pass\npicture:\n" ++ flat_map picture_line (rows_of p));
  digits = flat_map cells_line (rows_of p);
  whole = cells_last (heading_text h) (codes "verdict: pass\npicture:\n") (flat_map picture_line (rows_of p))
      (codes "cells:\n" ++ flat_map cells_line (rows_of p));
  read_back = cells_of_picture_back p.size p whole;
}

-- the picture, where there is one, has a cell at each position
abbrev pub HasWhole : {G : Type 0} → Report G → Type 0
HasWhole (Pass parts start picture cells) = IsPictureOf picture.now.size picture.now
HasWhole (Refused parts start fault) = Unit {0}

pub tells_cells : {G : Type 0} (r : Report G) → HasWhole r → TellsCells r
tells_cells (Pass parts start picture true) whole = ends_in_cells (heading_of parts.now (Some start)) picture.now whole
tells_cells (Pass parts start picture false) whole = tt
tells_cells (Refused parts start fault) whole = tt
