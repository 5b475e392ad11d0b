use Rattle.std.proofs.Common.{◌≡◌, ◌*◌, take}
use Rattle.std.specs.List.{flat_map}
use Rattle.std.specs.Simd.Lanes.{zip2}
use Rattle.ans_model.specs.Screen.State.{cell}
use Rattle.ans_model.specs.Text.ReportText.{cell_digits}
use Rattle.ans_write.proofs.tables.Tables.write_digits.Given as goal

abbrev pub invariant-loop-i : goal.invariant-loop-i
invariant-loop-i l =
    take (4 * l.i) l.text ≡ flat_map cell_digits (zip2 cell (take l.i l.bytes) (take l.i l.attributes))
