use Rattle.std.proofs.Common.{replicate}
use Rattle.ans_redraw.specs.Form.{down, texts}
use Rattle.ans_redraw.proofs.ends.give_downward.Given as goal

abbrev pub invariant-loop-move : goal.invariant-loop-move
invariant-loop-move g l = g.S.Sink.takes l.fn.sink l.sink (texts (replicate l._move (down 255)))
