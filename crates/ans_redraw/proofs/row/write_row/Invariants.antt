use Rattle.std.proofs.Common.{◌≡◌, ◌+◌, ◌-◌, ◌*◌, ◌≤◌, ◌++◌, length, take}
use Rattle.std.specs.Simd.Lanes.{zip2}
use Rattle.ans_model.specs.Screen.State.{cell}
use Rattle.ans_redraw.specs.Form.{drawn, pen_behind, texts}
use Rattle.ans_redraw.proofs.RowTexts.{cells_from}
use Rattle.ans_redraw.proofs.row.write_row.Given as goal

abbrev pub invariant-loop-i : goal.invariant-loop-i
invariant-loop-i l = record {
  reached : l.i ≤ length l.bytes;
  within : l.end + 13 * l.at.passed ≤ 13 * l.i;
  long : length l.text ≡ length l.fn.text;
  so_far : take l.end l.text ++ texts (drawn l.at (cells_from l.bytes l.attributes l.i))
      ≡ texts (drawn l.fn.pen (zip2 cell l.bytes l.attributes));
  pen : pen_behind l.at (cells_from l.bytes l.attributes l.i)
      ≡ pen_behind l.fn.pen (zip2 cell l.bytes l.attributes);
}

abbrev pub decreases-loop-i : goal.decreases-loop-i
decreases-loop-i l = length l.bytes - l.i
