-- Why a file is not redrawn.
use Rattle.std.proofs.Common.{ℕ, List, Option, Some, None, inl, inr}
use Rattle.ans_model.specs.File.Layout.{FileParts}
use Rattle.ans_model.specs.Screen.StartClass.{all_known}
use Rattle.ans_model.specs.Verdict.Good.{Picture}
use Rattle.ans_model.specs.declared.fault.Fault.{Fault}
use Rattle.ans_sauce.specs.declared.parts.Parts.{Parts}
use Rattle.ans_redraw.specs.RedrawnFile.{IsTooLong}
use Rattle.ans_redraw.specs.declared.outcome.Unredrawn.{Unredrawn}
use Rattle.ans_redraw.specs.declared.outcome.Unredrawn.TheVariants.{Refused, TooLong}
use Rattle.ans_verdict.specs.FileVerdict.{IsVerdictOn, Passes}
use Rattle.ans_redraw.specs.Redrawing.{IsReasonNot, IsRefusedFromCleared}
use Rattle.ans_verdict.specs.declared.verdict.Verdict.TheVariants as verdict

-- with the form of its picture the file would be too long
pub too_long : (file : List ℕ) (apart : FileParts) (picture : Picture) (reason : Unredrawn)
    → Passes file all_known apart picture → IsTooLong file picture reason → IsReasonNot file reason
too_long file apart picture (Refused fault) passes long = absurd (cc)
too_long file apart picture (TooLong whole) passes long =
    record { apart = apart; picture = picture; passes = passes; long = long }

-- what is refused from the cleared start is refused for that fault
pub refused_from_cleared : (G : Type 0) (file : List ℕ) (parts : Option Parts) (fault : Fault)
    → IsVerdictOn {G = G} file all_known (verdict.Refused parts fault) → IsRefusedFromCleared file fault
refused_from_cleared G file None fault is = inl is
refused_from_cleared G file (Some parts) fault is = inr (is.0, is.2)
