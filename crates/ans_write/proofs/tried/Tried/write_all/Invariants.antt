use Rattle.std.proofs.Common.{length, take, ◌+◌, ◌-◌, ◌≡◌, ◌≤◌, false}
use Rattle.std.specs.Io.KnownBytes.{Appends}
use Rattle.ans_write.specs.Tried.{has_failed, call_count, inner_of}
use Rattle.ans_write.proofs.tried.Tried.write_all.Given as goal

abbrev pub invariant-loop-written : goal.invariant-loop-written
invariant-loop-written g l = record {
  works : has_failed l.self ≡ false;
  within : l.written ≤ length l.bytes;
  no_fewer_calls : call_count l.fn.self ≤ call_count l.self;
  a_call_a_byte : call_count l.self ≤ call_count l.fn.self + l.written;
  so_far : Appends (g.W.Write.contents (inner_of l.fn.self)) (g.W.Write.contents (inner_of l.self))
      (take l.written l.bytes);
}

abbrev pub decreases-loop-written : goal.decreases-loop-written
decreases-loop-written g l = length l.bytes - l.written
