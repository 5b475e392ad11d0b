use Rattle.std.proofs.Common.{refl, subst, sym}
use Rattle.ans_model.specs.Screen.StartClass.{Covers, none_known}
use Rattle.ans_model.specs.Verdict.Good.{IsGood}
use Rattle.ans_model.specs.Verdict.Needs.{IsLeast}
use Rattle.ans_model.specs.declared.start.Start.{Start}
use Rattle.ans_model.proofs.ClassLemmas.{covers_itself}
use Rattle.ans_play.proofs.LeastClass.{least_by_parts}
use Rattle.ans_sauce.specs.Parts.{content_of, size_of}
use Rattle.ans_verdict.specs.FileVerdict.{Deserves}
use Rattle.ans_verdict.specs.StartParts.{IsPassingClass}
use Rattle.ans_verdict.proofs.LeastLemmas.{good_when_cleared}
use Rattle.ans_verdict.proofs.VerdictLemmas.{nothing_needed, not_good}
use Rattle.ans_verdict.proofs.least_class.least_class.Goals as goal

pub returns-in_default-clause-least : goal.returns-in_default-clause-least
returns-in_default-clause-least g c =
    let z = size_of c.args.parts.now in
    let content = content_of c.args.parts.now in
    let good : IsGood z none_known content = rw c.in_default.is at c.in_ok-fault.ensures.fault in
    record {
      least = least_by_parts z content none_known (good_when_cleared z content none_known good)
          (nothing_needed z content good);
      nothing = refl;
      fault = tt;
    }

pub returns-in_ok-class-in-Ok-clause-least : goal.returns-in_ok-class-in-Ok-clause-least
returns-in_ok-class-in-Ok-clause-least g c =
    let z = size_of c.args.parts.now in
    let content = content_of c.args.parts.now in
    let class = c.in_ok-class-in-Ok.class in
    let deserves : Deserves z none_known content c.in-Some.fault = rw c.in-Some.is at c.in_ok-fault.ensures.fault in
    let passing : IsPassingClass z content c.in-Ok.passing = rw c.in-Ok.is at c.in_ok-cleared.ensures.passes in
    let least : IsLeast z content class =
    least_by_parts z content class (good_when_cleared z content c.in-Ok.passing.class passing.good)
    c.in_ok-class-in-Ok.ensures.found in
    record {
      least = least;
      nothing = tt;
      fault = (
        λ e. not_good z none_known content c.in-Some.fault deserves
            ((least none_known).1 (subst (λ (s : Start). Covers s none_known) (sym e) (covers_itself none_known))),
        deserves,
      );
    }
