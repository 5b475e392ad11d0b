use Rattle.ans_check.proofs.AnswerLemmas.{aimless}
use Rattle.ans_check.proofs.answering.file_asked.Goals as goal

pub returns-in-Mend-clause-filed : goal.returns-in-Mend-clause-filed
returns-in-Mend-clause-filed g c = rw c.in-Mend.is (rw c.as_slice.ensures.value at c.file_mended.ensures.filed)

pub returns-in-Redraw-clause-filed : goal.returns-in-Redraw-clause-filed
returns-in-Redraw-clause-filed g c =
    rw c.in-Redraw.is (rw c.as_slice-in-Redraw.ensures.value at c.file_named.ensures.filed)

pub unreachable-requires : goal.unreachable-requires
unreachable-requires g c =
    aimless c.args.asked.now c.args.goal c.requires c.in_default.not-Mend c.in_default.not-Redraw
