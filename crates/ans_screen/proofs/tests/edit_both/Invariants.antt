use Rattle.std.proofs.Common.{◌≡◌}
use Rattle.ans_screen.proofs.tests.edit_both.Given as goal

-- both grids have 3 rows of 33 cells
abbrev pub invariant-loop-edit : goal.invariant-loop-edit
invariant-loop-edit g l =
    (g.A.Screen.width_of l.grid ≡ 33) × (g.A.Screen.rows_of l.grid ≡ 3)
    × (g.B.Screen.width_of l.model ≡ 33) × (g.B.Screen.rows_of l.model ≡ 3)
