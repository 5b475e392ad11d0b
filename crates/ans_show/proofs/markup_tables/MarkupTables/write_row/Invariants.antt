use Rattle.std.proofs.Common.{◌≡◌, ◌≤◌, ◌*◌, ◌++◌, length, take}
use Rattle.std.specs.Simd.Lanes.{zip2}
use Rattle.ans_model.specs.Screen.State.{cell}
use Rattle.ans_show.specs.MarkupTables.{cells_shown}
use Rattle.ans_show.proofs.CellRuns.{cells_from}
use Rattle.ans_show.proofs.markup_tables.MarkupTables.write_row.Given as goal

abbrev pub invariant-loop-i : goal.invariant-loop-i
invariant-loop-i l = record {
  within : l.end ≤ 56 * l.i;
  long : length l.text ≡ length l.fn.text;
  so_far : take l.end l.text ++ cells_shown l.self.markup l.last (cells_from l.bytes l.attributes l.i)
      ≡ cells_shown l.self.markup 256 (zip2 cell l.bytes l.attributes);
}
