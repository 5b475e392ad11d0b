use Rattle.std.proofs.Common.{None, Some, refl}
use Rattle.ans_check.proofs.answering.answer_asked.Goals as goal

pub file_asked-requires : goal.file_asked-requires
file_asked-requires g c = rw c.in-Some.is at c.aim_of.ensures

pub returns-in-Some-clause-answers : goal.returns-in-Some-clause-answers
returns-in-Some-clause-answers g c =
    (Some c.in-Some.goal, rw c.in-Some.is at c.aim_of.ensures, (refl, c.file_asked.ensures.filed))

pub returns-in-None-clause-answers : goal.returns-in-None-clause-answers
returns-in-None-clause-answers g c =
    (None, rw c.in-None.is at c.aim_of.ensures, (refl, c.tell_asked.ensures.ends, c.tell_asked.ensures.says))
