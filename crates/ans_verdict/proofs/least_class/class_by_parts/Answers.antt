use Rattle.std.proofs.Common.{refl}
use Rattle.ans_verdict.proofs.RoomLemmas.{keeps_then, takes_err, takes_ok, takes_then}
use Rattle.ans_verdict.proofs.least_class.class_by_parts.Goals as goal

pub returns-in_err-needs_part-clause-room : goal.returns-in_err-needs_part-clause-room
returns-in_err-needs_part-clause-room g c =
    takes_err c.in_err-needs_part.ensures.room refl c.from_residual.ensures.0

pub returns-in_err-needs_part-2-clause-room : goal.returns-in_err-needs_part-2-clause-room
returns-in_err-needs_part-2-clause-room g c =
    takes_err
    (takes_then c.needs_part.ensures.room.keeps c.in_err-needs_part-2.ensures.room)
    refl c.from_residual-in_err-needs_part-2.ensures.0

pub returns-in_err-needs_part-3-clause-room : goal.returns-in_err-needs_part-3-clause-room
returns-in_err-needs_part-3-clause-room g c =
    takes_err
    (takes_then (keeps_then c.needs_part.ensures.room.keeps c.needs_part-2.ensures.room.keeps)
    c.in_err-needs_part-3.ensures.room)
    refl c.from_residual-in_err-needs_part-3.ensures.0

pub returns-in_err-needs_part-4-clause-room : goal.returns-in_err-needs_part-4-clause-room
returns-in_err-needs_part-4-clause-room g c =
    takes_err
    (takes_then
    (keeps_then (keeps_then c.needs_part.ensures.room.keeps c.needs_part-2.ensures.room.keeps)
    c.needs_part-3.ensures.room.keeps)
    c.in_err-needs_part-4.ensures.room)
    refl c.from_residual-in_err-needs_part-4.ensures.0

pub returns-in_err-needs_part-5-clause-room : goal.returns-in_err-needs_part-5-clause-room
returns-in_err-needs_part-5-clause-room g c =
    takes_err
    (takes_then
    (keeps_then (keeps_then (keeps_then c.needs_part.ensures.room.keeps c.needs_part-2.ensures.room.keeps)
    c.needs_part-3.ensures.room.keeps)
    c.needs_part-4.ensures.room.keeps)
    c.in_err-needs_part-5.ensures.room)
    refl c.from_residual-in_err-needs_part-5.ensures.0

pub returns-clause-room : goal.returns-clause-room
returns-clause-room g c =
    takes_ok
    (keeps_then (keeps_then (keeps_then (keeps_then c.needs_part.ensures.room.keeps c.needs_part-2.ensures.room.keeps)
    c.needs_part-3.ensures.room.keeps)
    c.needs_part-4.ensures.room.keeps)
    c.needs_part-5.ensures.room.keeps)

pub returns-clause-found : goal.returns-clause-found
returns-clause-found g c = record {
  screen = c.in_ok-needs_part.ensures.needed;
  cursor = c.in_ok-needs_part-2.ensures.needed;
  saved = c.in_ok-needs_part-3.ensures.needed;
  colours = c.in_ok-needs_part-4.ensures.needed;
  wrap = c.in_ok-needs_part-5.ensures.needed;
}
