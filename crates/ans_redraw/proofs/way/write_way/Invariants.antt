use Rattle.std.proofs.Common.{◌≡◌, ◌+◌, ◌*◌, ◌≤◌, ◌++◌, length, take, replicate}
use Rattle.ans_redraw.specs.Form.{skip, texts}
use Rattle.ans_redraw.proofs.way.write_way.Given as goal

abbrev pub invariant-loop-skip : goal.invariant-loop-skip
invariant-loop-skip l = record {
  within : l.reached ≤ l.fn.end + 6 * l._skip;
  long : length l.text ≡ length l.fn.text;
  so_far : take l.reached l.text ≡ take l.fn.end l.fn.text ++ texts (replicate l._skip (skip 255));
}
