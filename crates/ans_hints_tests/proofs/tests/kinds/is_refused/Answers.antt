use Rattle.std.proofs.Common.{◌≡◌, inl, inr, ℕ, false, List, Option, None, Some, refl, sym}
use Rattle.std.specs.Prelude.{◌↔◌, IfSome, is_some}
use Rattle.std.proofs.lemmas.Bool.{false≢true}
use Rattle.ans_model.specs.Screen.State.{Size}
use Rattle.ans_model.specs.Verdict.Good.{IsGood}
use Rattle.ans_model.specs.Verdict.LastFault.{IsDeserved}
use Rattle.ans_model.specs.declared.fault.Fault.{Fault}
use Rattle.ans_model.specs.declared.start.Start.{Start}
use Rattle.ans_model.proofs.OneAnswer.{good_or_first, good_or_last}
use Rattle.ans_hints_tests.proofs.tests.kinds.is_refused.Goals as goal

-- what has no fault is good, and what deserves one is not
good_or_refused : (z : Size) (start : Start) (bytes : List ℕ) (found : Option Fault)
    → IfSome found (IsDeserved z start bytes) → (found ≡ None → IsGood z start bytes)
    → (is_some found ≡ false) ↔ IsGood z start bytes
good_or_refused z start bytes None deserved none = (λ e. none refl, λ good. refl)
good_or_refused z start bytes (Some f) (inl first) none = (
  λ e. absurd (false≢true (sym e)),
  λ good. absurd (good_or_first z start bytes f good first),
)
good_or_refused z start bytes (Some f) (inr last) none = (
  λ e. absurd (false≢true (sym e)),
  λ good. absurd (good_or_last z start bytes f good last),
)

pub returns : goal.returns
returns c =
    let h = rw (c.width.ensures.width, c.lines.ensures.lines) at c.in_ok-fault.ensures in
    rw c.is_some.ensures (good_or_refused c.args.size c.args.start c.args.content.now c.in_ok-fault.fault h.fault
    h.good)
