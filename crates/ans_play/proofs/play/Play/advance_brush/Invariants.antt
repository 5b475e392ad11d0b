use Rattle.std.proofs.Common.{◌≡◌, ◌-◌, ◌≤◌, length, take}
use Rattle.ans_play.specs.Brushes.{with_brush, IsBrush}
use Rattle.ans_play.specs.Stands.{PlaysWholeTokens}
use Rattle.ans_play.proofs.play.Play.advance_brush.Given as goal

-- the first bytes are played, the brush tells where, and nothing changes before the first token
abbrev pub invariant-loop-count : goal.invariant-loop-count
invariant-loop-count g l = record {
  within : l.count ≤ length l.bytes;
  on : IsBrush l.self.size l.brush;
  played : PlaysWholeTokens l.fn.self (take l.count l.bytes) (with_brush l.self l.brush);
  none : l.count ≡ 0 → with_brush l.self l.brush ≡ l.fn.self;
}

abbrev pub decreases-loop-count : goal.decreases-loop-count
decreases-loop-count g l = length l.bytes - l.count
