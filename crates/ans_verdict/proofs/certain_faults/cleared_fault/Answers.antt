use Rattle.ans_model.specs.Screen.StartClass.{all_known, none_known}
use Rattle.ans_model.specs.Verdict.Good.{IsGood}
use Rattle.ans_model.proofs.ClassLemmas.{covers_all_known, covers_good}
use Rattle.ans_sauce.specs.Parts.{content_of, size_of}
use Rattle.ans_verdict.proofs.CertainFaults.{certain_from_cleared}
use Rattle.ans_verdict.proofs.RoomLemmas.{keeps_itself, takes_ok}
use Rattle.ans_verdict.proofs.certain_faults.cleared_fault.Goals as goal

pub returns-then-is_certain-clause-fault : goal.returns-then-is_certain-clause-fault
returns-then-is_certain-clause-fault g c =
    certain_from_cleared (size_of c.args.parts.now) none_known (content_of c.args.parts.now) c.in-Some.fault
    (c.is_certain.ensures.0 c.if-is_certain.true) (rw c.in-Some.is at c.requires.ends)

pub returns-then-is_certain-clause-room : goal.returns-then-is_certain-clause-room
returns-then-is_certain-clause-room g c = takes_ok keeps_itself

pub returns-in_default-clause-fault : goal.returns-in_default-clause-fault
returns-in_default-clause-fault g c =
    let good : IsGood (size_of c.args.parts.now) none_known (content_of c.args.parts.now) =
    rw c.in_default.is at c.requires.ends in (
      good.0,
      covers_good (size_of c.args.parts.now) none_known all_known (content_of c.args.parts.now) good.0
          (covers_all_known none_known) good.1,
    )

pub returns-in_default-clause-room : goal.returns-in_default-clause-room
returns-in_default-clause-room g c = takes_ok keeps_itself
