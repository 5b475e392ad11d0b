-- What a report says.
use Rattle.std.specs.Prelude.{◌≡◌, ℕ, true, List, ◌++◌, codes, Option, Some, None}
use Rattle.std.specs.Option.{option_copied}
use Rattle.ans_model.specs.declared.fault.Fault.{Fault}
use Rattle.ans_model.specs.declared.start.Start.{Start}
use Rattle.ans_model.specs.Text.ReportText.{Passed, RefusedFor, refusal_text, report_text, picture_back}
use Rattle.ans_model.specs.Text.FaultText.{line_of}
use Rattle.ans_model.specs.Verdict.Good.{Picture}
use Rattle.ans_report.specs.declared.report.Report.{Report}
use Rattle.ans_report.specs.declared.report.Report.TheVariants.{Pass, Refused}
use Rattle.ans_sauce.specs.declared.parts.Parts.{Parts}
use Rattle.ans_sauce.specs.Parts.{size_of}
use Rattle.ans_report.specs.Headings.{heading_of}

-- a picture has the size that the parts state
abbrev pub IsFitting : {G : Type 0} → Report G → Type 0
IsFitting (Pass parts start picture cells) = picture.now.size ≡ size_of parts.now
IsFitting (Refused parts start fault) = Unit {0}

-- the text of a refusal; without parts it is that of just the fault
abbrev pub refused_text : Option Parts → Start → Fault → List ℕ
refused_text None start fault = refusal_text fault
refused_text (Some parts) start fault = report_text (heading_of parts (Some start)) (RefusedFor fault)

-- the report's text
abbrev pub report_bytes : {G : Type 0} → Report G → List ℕ
report_bytes (Pass parts start picture cells) =
    report_text (heading_of parts.now (Some start)) (Passed picture.now cells)
report_bytes (Refused parts start fault) = refused_text (option_copied parts) start fault

-- the text ends in the line `cells:` and in digits from which the picture's cells are read back
pub record EndsInCells (picture : Picture) (text : List ℕ) : Type 0 where
  pub front : List ℕ
  pub digits : List ℕ
  pub whole : text ≡ front ++ (line_of (codes "cells:") ++ digits)
  pub read_back : picture_back picture.size.width picture.size.lines digits ≡ picture.cells

-- the cells of a pass can be read back from its report, if the report has them
abbrev pub TellsCells : {G : Type 0} → Report G → Type 0
TellsCells (Pass parts start picture true) =
    EndsInCells picture.now (report_text (heading_of parts.now (Some start)) (Passed picture.now true))
TellsCells _ = Unit {0}
