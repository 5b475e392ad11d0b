use Rattle.std.proofs.Common.{◌≡◌, ◌≤◌, length, take, drop, None}
use Rattle.std.specs.Slice.Iter.{chunks_rest, chunks_size}
use Rattle.ans_play.specs.Stands.{Stands, SamePlay}
use Rattle.ans_verdict.proofs.verdict.play_content.Given as goal

abbrev pub invariant-loop-piece : goal.invariant-loop-piece
invariant-loop-piece g l = record {
  size : chunks_size l.piece-iterator ≡ 4_096;
  rest : chunks_rest l.piece-iterator ≡ drop l.player.fed l.content;
  fed : l.player.fed ≤ length l.content;
  no_fault : l.player.fault ≡ None;
  same : SamePlay l.fn.player l.player;
  stands : Stands l.player (take l.player.fed l.content);
}
