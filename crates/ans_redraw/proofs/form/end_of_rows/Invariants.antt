use Rattle.std.proofs.Common.{◌≡◌, ◌≤◌, length, drop, true}
use Rattle.ans_model.specs.Text.ReportText.{rows_of}
use Rattle.ans_redraw.specs.Form.{are_blank}
use Rattle.ans_redraw.proofs.form.end_of_rows.Given as goal

abbrev pub invariant-loop-end : goal.invariant-loop-end
invariant-loop-end g l = record {
  within : l.end ≤ l.picture.size.lines;
  bytes : length l.bytes ≡ l.picture.size.width;
  attributes : length l.attributes ≡ l.picture.size.width;
  behind : are_blank (drop l.end (rows_of l.picture)) ≡ true;
}

abbrev pub decreases-loop-end : goal.decreases-loop-end
decreases-loop-end g l = l.end
