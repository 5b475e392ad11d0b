use Rattle.std.proofs.Common.{rules}
use Rattle.ans_write.proofs.WritesLemmas.{writes_more}
use Rattle.ans_write.proofs.tried.Tried.write_all.Goals as goal

pub loop-written-preserved : goal.loop-written-preserved
loop-written-preserved g c = record {
  works = search rules;
  within = search rules;
  no_fewer_calls = search rules;
  a_call_a_byte = search rules;
  so_far = writes_more _ _ _ _ c.loop-written.written c.in_ok-taken.taken c.loop-written.invariant.so_far
      c.in_ok-taken.ensures.bytes;
}
