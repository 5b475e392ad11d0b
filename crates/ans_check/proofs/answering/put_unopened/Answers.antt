use Rattle.std.proofs.Common.{sym}
use Rattle.ans_write.proofs.PutsLemmas.{Puts-then}
use Rattle.ans_check.proofs.answering.put_unopened.Goals as goal

pub returns-then-is_some : goal.returns-then-is_some
returns-then-is_some g c =
    rw (sym c.is_some.ensures, c.if-is_some.true) (Puts-then c.put_front.ensures c.put_reason.ensures)
