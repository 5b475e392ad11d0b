use Rattle.std.proofs.Common.{◌≡◌, ◌-◌, ◌≤◌, length, take}
use Rattle.ans_play.specs.Stands.{PlaysWholeTokens}
use Rattle.ans_play.proofs.play.Play.advance_span.Given as goal

-- the first bytes are played, and nothing changes before the first token
abbrev pub invariant-loop-count : goal.invariant-loop-count
invariant-loop-count g l = record {
  within : l.count ≤ length l.bytes;
  played : PlaysWholeTokens l.fn.self (take l.count l.bytes) l.self;
  none : l.count ≡ 0 → l.self ≡ l.fn.self;
}

abbrev pub decreases-loop-count : goal.decreases-loop-count
decreases-loop-count g l = length l.bytes - l.count
