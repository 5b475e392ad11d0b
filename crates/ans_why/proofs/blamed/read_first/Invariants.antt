use Rattle.ans_why.proofs.BlamedLemmas.{IsOpenSoFar}
use Rattle.ans_why.proofs.blamed.read_first.Given as goal

abbrev pub invariant-loop-i : goal.invariant-loop-i
invariant-loop-i l = IsOpenSoFar l.bytes l.i l.scanner
