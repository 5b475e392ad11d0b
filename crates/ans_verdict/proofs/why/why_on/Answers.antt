use Rattle.std.proofs.Common.{refl, rules}
use Rattle.std.proofs.lemmas.Option.{IfSome_then}
use Rattle.ans_sauce.specs.declared.judged.Judged.TheVariants.{Passes, Refused}
use Rattle.ans_verdict.specs.FilePlayed.{IsPlayedFile}
use Rattle.ans_verdict.proofs.RoomLemmas.{within_err}
use Rattle.ans_verdict.proofs.why.why_on.Goals as goal

pub returns-in_err-fault-clause-room : goal.returns-in_err-fault-clause-room
returns-in_err-fault-clause-room g c = within_err c.args.file.now c.in_err-fault.ensures.room refl (search rules)

pub of-pass-requires-clause-fault : goal.of-pass-requires-clause-fault
of-pass-requires-clause-fault g c =
    let played : IsPlayedFile c.args.file.now (Passes c.in-Passes.parts c.in-Passes.least) =
    rw c.in-Passes.is at c.in_ok-fault.ensures.played in
    IfSome_then c.in-Passes.least.fault played.1.fault (λ f h. (h.0, h.1.deserved))

pub returns-in-Refused-clause-why : goal.returns-in-Refused-clause-why
returns-in-Refused-clause-why g c =
    let played : IsPlayedFile c.args.file.now (Refused c.in-Refused.parts c.in-Refused.fault) =
    rw c.in-Refused.is at c.in_ok-fault.ensures.played in
    (played.0, c.of-refusal.ensures)
