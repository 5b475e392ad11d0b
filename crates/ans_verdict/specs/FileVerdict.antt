-- What a verdict says of a file.
use Rattle.std.specs.Prelude.{◌≡◌, ℕ, ◌≤◌, List, length, Option, Some, None}
use Rattle.ans_model.specs.File.Record.{stated_size}
use Rattle.ans_model.specs.File.Layout.{FileParts, content}
use Rattle.ans_model.specs.File.Refusals.{Accepts, record_fault}
use Rattle.ans_model.specs.Screen.State.{Size}
use Rattle.ans_model.specs.Screen.StartClass.{all_known}
use Rattle.ans_model.specs.Verdict.Good.{Picture, GoodWith}
use Rattle.ans_model.specs.Verdict.Certain.{IsCertain}
use Rattle.ans_model.specs.Verdict.TwoStarts.{IsShownByTwoStarts}
use Rattle.ans_model.specs.declared.fault.Fault.{Fault}
use Rattle.ans_model.specs.declared.start.Start.{Start}
use Rattle.ans_sauce.specs.Parts.{ShowsParts}
use Rattle.ans_model.specs.Verdict.LastFault.{IsDeserved}
use Rattle.ans_verdict.specs.declared.verdict.Verdict.{Verdict}
use Rattle.ans_verdict.specs.declared.verdict.Verdict.TheVariants.{Pass, Refused}

-- The fault is the content's first; where no token has one, it is the last. From the cleared start it is certain. Where
-- it depends on the start, the plays from the low and the high start of the class show it.
pub record Deserves (z : Size) (start : Start) (bytes : List ℕ) (fault : Fault) : Type 0 where
  pub deserved : IsDeserved z start bytes fault
  pub certain : start ≡ all_known → IsCertain fault.cause
  pub shown : IsShownByTwoStarts z start bytes fault
  pub offset : fault.offset ≤ length bytes

-- The file is accepted so, and from every start of the class its content plays well and shows the picture.
pub record Passes (file : List ℕ) (start : Start) (apart : FileParts) (picture : Picture) : Type 0 where
  pub accepts : Accepts file apart
  pub good : GoodWith (stated_size apart.record_bytes) start (content apart.body) picture

-- the file is accepted so, and its content deserves the fault
pub record IsRefusedFor (file : List ℕ) (start : Start) (apart : FileParts) (fault : Fault) : Type 0 where
  pub accepts : Accepts file apart
  pub deserved : Deserves (stated_size apart.record_bytes) start (content apart.body) fault

-- the verdict is true of the file; without parts the fault is that of the record
abbrev pub IsVerdictOn : {G : Type 0} → List ℕ → Start → Verdict G → Type 0
IsVerdictOn file start (Pass parts picture) = (apart : FileParts) × ShowsParts apart parts
    × Passes file start apart picture
IsVerdictOn file start (Refused (Some parts) fault) =
    (apart : FileParts) × ShowsParts apart parts × IsRefusedFor file start apart fault
IsVerdictOn file start (Refused None fault) = record_fault file ≡ Some fault

-- the fault for which a verdict refuses; a pass has none
abbrev pub fault_of : {G : Type 0} → Verdict G → Option Fault
fault_of (Pass parts picture) = None
fault_of (Refused parts fault) = Some fault

-- the file is accepted, and its content is good
abbrev pub IsGoodFile : List ℕ → Start → Type 0
IsGoodFile file start = (apart : FileParts) × (picture : Picture) × Passes file start apart picture
