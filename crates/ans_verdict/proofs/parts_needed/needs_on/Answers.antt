use Rattle.std.proofs.Common.{refl, rules}
use Rattle.ans_model.specs.Screen.StartClass.{all_known}
use Rattle.ans_model.proofs.FirstRefusal.{refusal_within_file}
use Rattle.ans_verdict.specs.FilePlayed.{IsPlayedFile}
use Rattle.ans_sauce.specs.declared.judged.Judged.TheVariants.{Refused}
use Rattle.ans_verdict.proofs.RoomLemmas.{within_err}
use Rattle.ans_verdict.proofs.VerdictLemmas.{refuses, refused_not_good, record_not_good}
use Rattle.ans_verdict.proofs.parts_needed.needs_on.Goals as goal

pub returns-in_err-fault-clause-room : goal.returns-in_err-fault-clause-room
returns-in_err-fault-clause-room g c = within_err c.args.file.now c.in_err-fault.ensures.room refl (search rules)

pub returns-in-NoContent-clause-exact : goal.returns-in-NoContent-clause-exact
returns-in-NoContent-clause-exact g c good =
    absurd (record_not_good c.args.file.now all_known c.in-NoContent.fault
    (rw c.in-NoContent.is at c.in_ok-fault.ensures.played) good)

pub returns-in-NoContent-clause-offset : goal.returns-in-NoContent-clause-offset
returns-in-NoContent-clause-offset g c =
    refusal_within_file c.args.file.now c.in-NoContent.fault (rw c.in-NoContent.is at c.in_ok-fault.ensures.played)

pub returns-in-Refused-clause-exact : goal.returns-in-Refused-clause-exact
returns-in-Refused-clause-exact g c good =
    let file = c.args.file.now in
    let played : IsPlayedFile file (Refused c.in-Refused.parts c.in-Refused.fault) =
    rw c.in-Refused.is at c.in_ok-fault.ensures.played in
    let refused = refuses file all_known c.in-Refused.parts played.0 c.in-Refused.fault played.1 in
    absurd (refused_not_good file all_known refused.0 c.in-Refused.fault refused.2 good)

pub returns-in-Refused-clause-needs : goal.returns-in-Refused-clause-needs
returns-in-Refused-clause-needs g c = rw c.in-Refused.is at c.in_ok-fault.ensures.played

pub returns-in-Passes-clause-needs : goal.returns-in-Passes-clause-needs
returns-in-Passes-clause-needs g c =
    let played = rw c.in-Passes.is at c.in_ok-fault.ensures.played in
    (played.0, played.1.least)
