use Rattle.ans_hints.proofs.SeenPieces.{Counts}
use Rattle.ans_hints.proofs.seen.seen_in_piece.Given as goal

abbrev pub invariant-loop-i : goal.invariant-loop-i
invariant-loop-i l = Counts l.piece l.i l.seen
