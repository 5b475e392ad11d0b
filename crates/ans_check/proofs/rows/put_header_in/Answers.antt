use Rattle.ans_write.proofs.PutsLemmas.{Puts-nothing}
use Rattle.ans_check.proofs.rows.put_header_in.Goals as goal

pub returns-in-Bare : goal.returns-in-Bare
returns-in-Bare g c = rw c.in-Bare.is (Puts-nothing c.args.out.now)

pub returns-in-Json : goal.returns-in-Json
returns-in-Json g c = rw c.in-Json.is (Puts-nothing c.args.out.now)
