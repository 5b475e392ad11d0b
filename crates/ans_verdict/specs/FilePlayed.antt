-- What the plays of a file come to.
use Rattle.std.specs.Prelude.{◌≡◌, ◌≢◌, ℕ, List, IfNone, IfSome}
use Rattle.ans_model.specs.Screen.StartClass.{none_known}
use Rattle.ans_sauce.specs.declared.parts.Parts.{Parts}
use Rattle.ans_sauce.specs.Parts.{content_of, size_of}
use Rattle.ans_sauce.specs.Judged.{IsJudged, IsRecordFault}
use Rattle.ans_sauce.specs.declared.judged.Judged.{Judged}
use Rattle.ans_model.specs.declared.fault.Fault.{Fault}
use Rattle.ans_verdict.specs.FileNeeds.{ContentDeserves, ContentNeeds}
use Rattle.ans_verdict.specs.FileVerdict.{Deserves}
use Rattle.ans_verdict.specs.declared.least_class.Least.{Least}

-- the class is the least from which the parts' content passes, and where that is not every start's, it has this fault
-- from all starts
pub record IsLeastOf (parts : Parts) (l : Least) : Type 0 where
  pub least : ContentNeeds parts l.class
  pub nothing : IfNone l.fault (l.class ≡ none_known)
  pub fault : IfSome l.fault (λ f. (l.class ≢ none_known) × Deserves (size_of parts) none_known (content_of parts) f)

-- what the plays come to is true of the file
abbrev pub IsPlayedFile : List ℕ → Judged Fault Fault Least → Type 0
IsPlayedFile file played = IsJudged (IsRecordFault file) ContentDeserves IsLeastOf file played
