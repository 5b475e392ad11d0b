use Rattle.std.proofs.Common.{◌≡◌, replicate, fold}
use Rattle.ans_model.specs.Bytes.{blank}
use Rattle.ans_model.specs.Sequence.TokenKind.{Tab}
use Rattle.ans_model.specs.Screen.State.{State, FitsScreen}
use Rattle.ans_model.specs.Screen.Step.{put}
use Rattle.ans_pens.specs.Pens.{StandsOn}
use Rattle.ans_pens.specs.CellPlays.{kept, WritesAbove}
use Rattle.ans_pens.proofs.cell_play.CellPlay.tab.Given as goal

-- `counter` blanks are printed
abbrev pub invariant-loop : goal.invariant-loop
invariant-loop l = record {
  stands : StandsOn l.size l.self.pen;
  play : (s : State) → l.fn.self ≡ kept l.size l.at s → FitsScreen l.size s → WritesAbove l.size s Tab
      → l.self ≡ kept l.size l.at (fold (put l.size) s (replicate l.counter blank));
}
