-- What is written of a file's record.
use Rattle.std.specs.Prelude.{◌≡◌, ℕ, Bool, true, false, List, Some}
use Rattle.ans_model.specs.File.Layout.{FileParts}
use Rattle.ans_model.specs.File.Refusals.{Accepts, record_fault}
use Rattle.ans_model.specs.Text.RecordText.{record_text}
use Rattle.ans_model.specs.Text.ReportText.{refusal_text}
use Rattle.ans_model.specs.declared.fault.Fault.{Fault}

-- the file's record or its layout has a fault, and the text reports it
pub record ReportsRecordFault (file text : List ℕ) : Type 0 where
  pub fault : Fault
  pub fault_is : record_fault file ≡ Some fault
  pub text_is : text ≡ refusal_text fault

-- the file is accepted so, and the text is its record's
pub record ReportsRecord (file text : List ℕ) : Type 0 where
  pub apart : FileParts
  pub accepts : Accepts file apart
  pub text_is : text ≡ record_text apart

-- the file's record is reported, or why it is refused
abbrev pub ReportsSauce : List ℕ → Bool → List ℕ → Type 0
ReportsSauce file true text = ReportsRecord file text
ReportsSauce file false text = ReportsRecordFault file text
