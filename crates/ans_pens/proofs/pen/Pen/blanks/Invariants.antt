use Rattle.std.proofs.Common.{◌≡◌, fold, replicate}
use Rattle.ans_model.specs.Bytes.{blank}
use Rattle.ans_model.specs.Screen.State.{State}
use Rattle.ans_model.specs.Screen.Step.{put}
use Rattle.ans_pens.specs.Pens.{pen_of, StandsOn}
use Rattle.ans_pens.proofs.pen.Pen.blanks.Given as goal

-- `counter` blanks are printed
abbrev pub invariant-loop : goal.invariant-loop
invariant-loop l = record {
  stands : StandsOn l.size l.self;
  pen : (s : State) → l.fn.self ≡ pen_of s → l.self ≡ pen_of (fold (put l.size) s (replicate l.counter blank));
}
