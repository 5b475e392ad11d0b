-- Why a file that passes is not redrawn.
use Rattle.std.proofs.Common.{◌≡◌, inl, inr, ℕ, List, subst, None}
use Rattle.ans_model.specs.File.Layout.{FileParts, content}
use Rattle.ans_model.specs.File.Record.{stated_size}
use Rattle.ans_model.specs.File.Refusals.{record_fault}
use Rattle.ans_model.specs.Screen.State.{Size}
use Rattle.ans_model.specs.Screen.StartClass.{all_known}
use Rattle.ans_model.specs.Verdict.Good.{IsGood, Picture}
use Rattle.ans_model.specs.Verdict.LastFault.{IsDeserved}
use Rattle.ans_model.specs.declared.fault.Fault.{Fault}
use Rattle.ans_model.specs.declared.start.Start.{Start}
use Rattle.ans_model.proofs.AcceptedFiles.{no_fault}
use Rattle.ans_model.proofs.OneAnswer.{good_or_first, good_or_last}
use Rattle.ans_redraw.specs.RedrawnFile.{IsTooLong}
use Rattle.ans_redraw.specs.declared.outcome.Unredrawn.{Unredrawn}
use Rattle.ans_redraw.specs.declared.outcome.Unredrawn.TheVariants.{Refused, TooLong}
use Rattle.ans_verdict.specs.FileVerdict.{Passes}
use Rattle.ans_redraw.specs.Redrawing.{IsReasonNot, IsRefusedFromCleared}
use Rattle.ans_check_laws.proofs.OnePicture.{same_apart, same_picture}

good_deserves_none : (z : Size) (class : Start) (bytes : List ℕ) (f : Fault) → IsGood z class bytes
    → IsDeserved z class bytes f → ⊥
good_deserves_none z class bytes f good (inl h) = good_or_first z class bytes f good h
good_deserves_none z class bytes f good (inr h) = good_or_last z class bytes f good h

-- a file that passes is not refused, neither for its record nor from the cleared start
not_refused : (file : List ℕ) (apart : FileParts) (picture : Picture) (fault : Fault)
    → Passes file all_known apart picture → IsRefusedFromCleared file fault → ⊥
not_refused file apart picture fault passes (inl some) =
    let none : record_fault file ≡ None = no_fault file apart passes.accepts in
    cc
not_refused file apart picture fault passes (inr (other, refused)) =
    good_deserves_none (stated_size apart.record_bytes) all_known (content apart.body) fault (picture, passes.good)
    (subst (λ (v : FileParts). IsDeserved (stated_size v.record_bytes) all_known (content v.body) fault)
    (same_apart file other apart refused.accepts passes.accepts) refused.deserved.deserved)

pub only_length : (file : List ℕ) (apart : FileParts) (picture : Picture) (reason : Unredrawn)
    → Passes file all_known apart picture → IsReasonNot file reason → IsTooLong file picture reason
only_length file apart picture (Refused fault) passes refused =
    absurd (not_refused file apart picture fault passes refused)
only_length file apart picture (TooLong whole) passes h =
    subst (λ (v : Picture). IsTooLong file v (TooLong whole))
    (same_picture file all_known h.apart apart h.picture picture h.passes passes).1 h.long
