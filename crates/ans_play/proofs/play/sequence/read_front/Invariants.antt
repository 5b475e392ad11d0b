use Rattle.ans_play.specs.Brushes.{IsReading}
use Rattle.ans_play.proofs.play.sequence.read_front.Given as goal

-- the numbers so far are those of the members before a semicolon
abbrev pub invariant-loop-semicolons : goal.invariant-loop-semicolons
invariant-loop-semicolons l = IsReading l.bytes l.fn.attribute l.semicolons l.at l.previous l.coloured
