use Rattle.std.proofs.Common.{refl}
use Rattle.ans_mend.proofs.MendLemmas.{judged, split_fault}
use Rattle.ans_verdict.proofs.RoomLemmas.{takes_then, within_file}
use Rattle.ans_verdict.proofs.VerdictLemmas.{content_within}
use Rattle.ans_mend.proofs.judging.judge.Goals as goal

pub returns-in-Some-clause-fault : goal.returns-in-Some-clause-fault
returns-in-Some-clause-fault g c = (
  c.in-Some.cleared,
  refl,
  split_fault c.args.file.now c.in-Ok.parts c.in-Some.cleared c.in-Ok.ensures.ok
      (rw c.in-Some.is at c.in_ok-cleared.ensures.fault),
)

pub cleared_fault-requires-clause-length : goal.cleared_fault-requires-clause-length
cleared_fault-requires-clause-length g c =
    content_within c.args.file.now c.in-Ok.parts c.in-Ok.ensures.ok c.requires

pub wants_mending-requires-clause-length : goal.wants_mending-requires-clause-length
wants_mending-requires-clause-length g c =
    content_within c.args.file.now c.in-Ok.parts c.in-Ok.ensures.ok c.requires

pub returns-clause-passes : goal.returns-clause-passes
returns-clause-passes g c =
    judged c.args.mends.now c.args.file.now c.in-Ok.parts
    _
    c.in-Ok.ensures.ok
    (rw c.in_default.is at c.in_ok-cleared.ensures.fault) c.wants_mending.ensures.every c.wants_mending.ensures.wants
    c.reading_of.ensures

pub returns-in_err-fault-clause-room : goal.returns-in_err-fault-clause-room
returns-in_err-fault-clause-room g c told =
    (within_file c.args.file.now c.in-Ok.parts c.in-Ok.ensures.ok c.in_err-fault.ensures.room).want refl

pub returns-in_err-cleared-clause-room : goal.returns-in_err-cleared-clause-room
returns-in_err-cleared-clause-room g c told =
    (within_file c.args.file.now c.in-Ok.parts c.in-Ok.ensures.ok
    (takes_then c.fault_from.ensures.room.keeps c.in_err-cleared.ensures.room)).want refl
