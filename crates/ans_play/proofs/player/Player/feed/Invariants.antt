use Rattle.std.proofs.Common.{◌≡◌, ◌-◌, length}
use Rattle.ans_play.specs.PlayerView.{play_of}
use Rattle.ans_play.proofs.Feeding.{PlaysTo}
use Rattle.ans_play.proofs.player.Player.feed.Given as goal

-- the first bytes of the piece are played, and the rest of the player stays
abbrev pub invariant-loop-played : goal.invariant-loop-played
invariant-loop-played g l = record {
  plays : PlaysTo (play_of l.fn.self) l.piece l.played l.self-inside.play;
  start : l.self-inside.start ≡ l.fn.self.start;
  fed : l.self-inside.fed ≡ l.fn.self.fed;
  fault : l.self-inside.fault ≡ l.fn.self.fault;
}

abbrev pub decreases-loop-played : goal.decreases-loop-played
decreases-loop-played g l = length l.piece - l.played
