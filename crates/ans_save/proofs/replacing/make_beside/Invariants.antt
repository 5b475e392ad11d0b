use Rattle.ans_save.specs.Replacing.{TriesTaken}
use Rattle.ans_save.proofs.replacing.make_beside.Given as goal

abbrev pub invariant-loop-number : goal.invariant-loop-number
invariant-loop-number g l = TriesTaken g.D.Disk.did l.fn.target l.fn.permissions l.number l.fn.disk l.disk
