use Rattle.std.proofs.Common.{refl}
use Rattle.ans_sauce.specs.Parts.{content_of, size_of}
use Rattle.ans_verdict.proofs.CertainFaults.{certain_from_cleared}
use Rattle.ans_verdict.proofs.RoomLemmas.{keeps_itself, keeps_then, takes_err, takes_ok, takes_then}
use Rattle.ans_verdict.proofs.VerdictLemmas.{not_good}
use Rattle.ans_verdict.proofs.least_class.passing_class.Goals as goal

pub loop-init : goal.loop-init
loop-init g c = record { deserved = c.requires.fault; keeps = keeps_itself }

pub loop-preserved : goal.loop-preserved
loop-preserved g c = record {
  deserved = rw (c.in-Some-fault.is, ← c.made_known-wider.ensures) at (rw c.in-Some.is at c.in_ok-mended.ensures.end);
  keeps = keeps_then c.loop.invariant.keeps c.in_ok-mended.ensures.room.keeps;
}

pub returns-then-is_certain-clause-refused : goal.returns-then-is_certain-clause-refused
returns-then-is_certain-clause-refused g c =
    certain_from_cleared (size_of c.args.parts.now) c.loop.class (content_of c.args.parts.now) c.loop.fault
    (c.is_certain.ensures.0 c.if-is_certain.true) c.loop.invariant.deserved

pub returns-then-is_certain-clause-room : goal.returns-then-is_certain-clause-room
returns-then-is_certain-clause-room g c = takes_ok c.loop.invariant.keeps

pub returns-in_err-mended-clause-room : goal.returns-in_err-mended-clause-room
returns-in_err-mended-clause-room g c =
    takes_err (takes_then c.loop.invariant.keeps c.in_err-mended.ensures.room) refl c.from_residual.ensures.0

pub returns-in-None-clause-passes : goal.returns-in-None-clause-passes
returns-in-None-clause-passes g c = record {
  good = rw (c.in-None.is, ← c.made_known-wider.ensures) at (rw c.in-Some.is at c.in_ok-mended.ensures.end);
  refused = not_good (size_of c.args.parts.now) c.loop.class (content_of c.args.parts.now) c.loop.fault
      c.loop.invariant.deserved;
}
