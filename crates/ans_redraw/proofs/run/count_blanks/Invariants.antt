use Rattle.std.proofs.Common.{◌≡◌, ◌≤◌, ◌-◌, length, drop}
use Rattle.std.specs.List.{list_all}
use Rattle.std.specs.Simd.Lanes.{zip2}
use Rattle.ans_model.specs.Screen.State.{cell}
use Rattle.ans_redraw.specs.Form.{is_blank}
use Rattle.ans_redraw.proofs.run.count_blanks.Given as goal

abbrev pub invariant-loop-count : goal.invariant-loop-count
invariant-loop-count l = record {
  within : l.count ≤ length l.bytes;
  blanks : list_all is_blank (zip2 cell (drop l.count l.bytes) (drop l.count l.attributes))
      ≡ list_all is_blank (zip2 cell l.bytes l.attributes);
}

abbrev pub decreases-loop-count : goal.decreases-loop-count
decreases-loop-count l = length l.bytes - l.count
