use Rattle.std.proofs.Common.{◌≡◌}
use Rattle.std.specs.List.{list_all}
use Rattle.std.specs.Simd.Lanes.{zip2}
use Rattle.ans_model.specs.Screen.State.{cell}
use Rattle.ans_redraw.specs.Form.{is_blank}
use Rattle.ans_redraw.proofs.RowTexts.{cells_from}
use Rattle.ans_redraw.proofs.row.are_blank.Given as goal

abbrev pub invariant-loop-i : goal.invariant-loop-i
invariant-loop-i l =
    list_all is_blank (cells_from l.bytes l.attributes l.i) ≡ list_all is_blank (zip2 cell l.bytes l.attributes)
