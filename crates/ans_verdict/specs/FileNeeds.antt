-- What a file needs.
use Rattle.std.specs.Prelude.{ℕ, List, Option, Some, None}
use Rattle.ans_model.specs.File.Record.{stated_size}
use Rattle.ans_model.specs.File.Layout.{FileParts, content}
use Rattle.ans_model.specs.File.Refusals.{Accepts}
use Rattle.ans_model.specs.Screen.StartClass.{all_known}
use Rattle.ans_model.specs.Verdict.Needs.{IsLeast}
use Rattle.ans_model.specs.declared.fault.Fault.{Fault}
use Rattle.ans_model.specs.declared.start.Start.{Start}
use Rattle.ans_sauce.specs.Judged.{IsJudged, IsRecordFault}
use Rattle.ans_sauce.specs.Parts.{content_of, size_of}
use Rattle.ans_sauce.specs.declared.judged.Judged.TheVariants.{NoContent, Refused, Passes}
use Rattle.ans_sauce.specs.declared.parts.Parts.{Parts}
use Rattle.ans_report.specs.NeedsBytes.{Needs}
use Rattle.ans_verdict.specs.FileVerdict.{Deserves}

-- The file is accepted so, and its content passes from exactly the classes that know all that this one knows.
pub record NeedsClass (file : List ℕ) (apart : FileParts) (class : Start) : Type 0 where
  pub accepts : Accepts file apart
  pub least : IsLeast (stated_size apart.record_bytes) (content apart.body) class

-- the parts' content deserves this fault from the cleared start
abbrev pub ContentDeserves : Parts → Fault → Type 0
ContentDeserves parts fault = Deserves (size_of parts) all_known (content_of parts) fault

-- the parts' content passes from exactly the classes that know all that this one knows
abbrev pub ContentNeeds : Parts → Start → Type 0
ContentNeeds parts class = IsLeast (size_of parts) (content_of parts) class

-- the answer is true of the file; a refusal is that of a check from the cleared start
abbrev pub IsNeedsOf : List ℕ → Needs → Type 0
IsNeedsOf file needs = IsJudged (IsRecordFault file) ContentDeserves ContentNeeds file needs

-- the fault for which no class is found
abbrev pub needs_fault : Needs → Option Fault
needs_fault (NoContent fault) = Some fault
needs_fault (Refused parts fault) = Some fault
needs_fault (Passes parts class) = None
