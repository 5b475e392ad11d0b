-- Where something is relied on.
use Rattle.std.proofs.Common.{◌≡◌, ◌≢◌, ℕ, List, Option, None, Some, subst}
use Rattle.std.specs.Prelude.{IfSome, IfNone}
use Rattle.ans_model.specs.declared.fault.Fault.{Fault}
use Rattle.ans_model.specs.declared.start.Start.{Start}
use Rattle.ans_model.specs.Screen.State.{Size}
use Rattle.ans_model.specs.Screen.StartClass.{none_known}
use Rattle.ans_model.specs.Verdict.LastFault.{IsDeserved}
use Rattle.ans_why.specs.Explained.{IsReliance}
use Rattle.ans_why.specs.declared.why.Reliance.{Reliance}

module _ (z : Size) (file_length : ℕ) (content : List ℕ) (needs : Start) (fault : Option Fault) where
  pub nothing_relied : (r : Option Reliance) → IfNone fault (needs ≡ none_known) → IfNone r (fault ≡ None)
      → IfNone r (needs ≡ none_known)
  nothing_relied None nothing none = subst (λ (f : Option Fault). IfNone f (needs ≡ none_known)) none nothing
  nothing_relied (Some r) nothing none = tt

  pub relied : (r : Option Reliance)
      → IfSome fault (λ f. (needs ≢ none_known) × IsDeserved z none_known content f)
      → IfSome r (λ r. IsReliance z file_length content r × (fault ≡ Some r.fault))
      → IfSome r (λ r. (needs ≢ none_known) × IsReliance z file_length content r)
  relied None has relies = tt
  relied (Some r) has (relies, is) = (
    (subst (λ (f : Option Fault). IfSome f (λ f. (needs ≢ none_known) × IsDeserved z none_known content f)) is
        has).0,
    relies,
  )
