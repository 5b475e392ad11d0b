-- What is written of a content's needs.
use Rattle.std.specs.Prelude.{ℕ, List, None}
use Rattle.ans_model.specs.declared.fault.Fault.{Fault}
use Rattle.ans_model.specs.declared.start.Start.{Start}
use Rattle.ans_model.specs.Text.NeedsText.{needs_text}
use Rattle.ans_model.specs.Text.ReportText.{RefusedFor, refusal_text, report_text}
use Rattle.ans_sauce.specs.declared.judged.Judged.{Judged}
use Rattle.ans_sauce.specs.declared.judged.Judged.TheVariants.{NoContent, Refused, Passes}
use Rattle.ans_report.specs.Headings.{heading_of}

-- the least class from which a content passes, or the fault of its record, its layout or its content
abbrev pub Needs : Type 0
Needs = Judged Fault Fault Start

-- the text of what a content needs, or of its refusal
abbrev pub needs_bytes : Needs → List ℕ
needs_bytes (NoContent fault) = refusal_text fault
needs_bytes (Refused parts fault) = report_text (heading_of parts None) (RefusedFor fault)
needs_bytes (Passes parts class) = needs_text (heading_of parts None) class
