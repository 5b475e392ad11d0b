use Rattle.std.proofs.Common.{◌≡◌, take}
use Rattle.ans_screen.specs.GridEdits.{written, printed_run}
use Rattle.ans_screen.proofs.grid.Grid.write_run.Given as goal

-- the bytes so far are written
abbrev pub invariant-loop-i : goal.invariant-loop-i
invariant-loop-i g l = record {
  cells : g.Self.Grid.cells_of l.self
      ≡ written (g.Self.Grid.cells_of l.fn.self) l.from (printed_run l.attr (take l.i l.bytes));
  width : g.Self.Grid.width_of l.self ≡ g.Self.Grid.width_of l.fn.self;
  rows : g.Self.Grid.rows_of l.self ≡ g.Self.Grid.rows_of l.fn.self;
}
