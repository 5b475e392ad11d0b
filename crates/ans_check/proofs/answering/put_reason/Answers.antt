use Rattle.std.proofs.Common.{sym}
use Rattle.ans_check.proofs.answering.put_reason.Goals as goal

pub returns-then-is_missing : goal.returns-then-is_missing
returns-then-is_missing g c =
    rw (c.if-naming.true, sym c.is_missing.ensures, c.if-is_missing.true)
    c.put_missing.ensures
